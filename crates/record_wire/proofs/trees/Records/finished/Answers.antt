use Rattle.std.proofs.Common.{◌≡◌, ◌+◌, ◌<◌, ◌^◌, ◌++◌, length, Ok, List, ℕ, inr, subst, sym}
use Rattle.std.proofs.Common.{arith, append_assoc}
use Rattle.record_wire.specs.Record.{structure}
use Rattle.record_wire.specs.Write.{word, size_of, bytes_of}
use Rattle.record_wire.specs.Trees.{whole_at}
use Rattle.record_wire.proofs.Written.{length-bytes_of, length-headed}
use Rattle.record_wire.proofs.TreeLemmas.{ends}
use Rattle.record_wire.proofs.trees.Records.finished.Goals as goal

pub returns-clause-read : goal.returns-clause-read
returns-clause-read g c vs adds many first =
    let value_of = g.M.Meaning.value_of in
    let s = structure c.args.root.now in let r = bytes_of s in
    let below = c.args.self.bytes.items in let n = c.args.self.count in
    let all = c.in_ok-all.all.items in
    let small : n + 1 < 2 ^ 32 = grind arith in
    let e : all ≡ word (n + 1) ++ (word 0 ++ (below ++ r)) = grind (arith, append_assoc) in
    let read = ends value_of n below r vs s small adds c.in_ok-all.ensures.read many first in
    subst (λ (b : List ℕ). whole_at value_of b ≡ Ok (s, vs)) (sym e) read

pub returns-then-len-gt268435456-clause-err : goal.returns-then-len-gt268435456-clause-err
returns-then-len-gt268435456-clause-err g c =
    let s = structure c.args.root.now in let r = bytes_of s in
    let below = c.args.self.bytes.items in let n = c.args.self.count in
    let all = c.in_ok-all.all.items in
    let e : all ≡ (word (n + 1) ++ (word 0 ++ below)) ++ r = grind arith in
    let k = length-headed (n + 1) below r all e in
    let t = length-bytes_of s in
    let large : 2 ^ 28 < 8 + (length below + size_of s) = grind (arith, k, t) in
    inr large
