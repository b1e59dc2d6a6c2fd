use Rattle.std.proofs.Common.{◌≡◌, ◌+◌, ◌++◌, List, ℕ, subst, sym, arith}
use Rattle.record_wire.specs.Trees.{Adds}
use Rattle.record_wire.proofs.TreeLemmas.{follows}
use Rattle.record_wire.proofs.trees.Records.joined.Goals as goal

pub returns-clause-adds : goal.returns-clause-adds
returns-clause-adds g c vs ws level one other =
    let value_of = g.M.Meaning.value_of in
    let a = c.args.self in let b = c.args.others.now in
    let e : c.extend_from_slice.new.self.items ≡ a.bytes.items ++ b.bytes.items = grind arith in
    let adds = follows value_of a.count b.count a.bytes.items b.bytes.items vs ws level one other in
    subst (λ (r : List ℕ). Adds value_of (a.count + b.count) r (vs ++ ws) level) (sym e) adds
