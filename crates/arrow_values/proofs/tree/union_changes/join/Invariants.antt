use Rattle.std.proofs.Common.{◌≡◌, ◌++◌, drop}
use Rattle.std.specs.List.{zip}
use Rattle.std.specs.Vec.Iter.{into_iter_items}
use Rattle.arrow_values.proofs.tree.union_changes.join.Given as goal

abbrev pub invariant-loop-id : goal.invariant-loop-id
invariant-loop-id l =
    l.members.items ++ zip (drop l.id-index l.id-items) (into_iter_items l.rest) ≡ zip l.fn.ids.items l.fn.fields.items
