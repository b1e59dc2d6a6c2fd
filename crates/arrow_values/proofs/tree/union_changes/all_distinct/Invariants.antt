use Rattle.std.proofs.Common.{◌≡◌, drop}
use Rattle.arrow_values.specs.Union.{are_distinct}
use Rattle.arrow_values.proofs.tree.union_changes.all_distinct.Given as goal

abbrev pub invariant-loop-i : goal.invariant-loop-i
invariant-loop-i l = are_distinct l.ids ≡ are_distinct (drop l.i l.ids)
