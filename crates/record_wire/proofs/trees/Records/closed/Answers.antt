use Rattle.std.proofs.Common.{◌≡◌, ◌+◌, ◌≤◌, ◌∷◌, [], ◌++◌, List, ℕ, subst, sym, arith}
use Rattle.record_wire.specs.Record.{structure}
use Rattle.record_wire.specs.Write.{bytes_of}
use Rattle.record_wire.specs.Trees.{Adds}
use Rattle.record_wire.proofs.TreeLemmas.{closes}
use Rattle.record_wire.proofs.trees.Records.closed.Goals as goal

pub returns-clause-adds : goal.returns-clause-adds
returns-clause-adds g c vs v adds many is =
    let value_of = g.M.Meaning.value_of in
    let s = structure c.args.one.now in let r = bytes_of s in
    let below = c.args.self.bytes.items in let n = c.args.self.count in
    let low : s.level ≤ 61 = grind arith in
    let read = c.in_ok-bytes.ensures.read in
    let e : c.in_ok-bytes.bytes.items ≡ below ++ r = c.in_ok-bytes.ensures.ok in
    let closed = closes value_of s r vs v read many low is n below adds in
    subst (λ (b : List ℕ). Adds value_of (n + 1) b (v ∷ []) s.level) (sym e) closed
