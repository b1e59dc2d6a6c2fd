use Rattle.std.proofs.Common.{◌≡◌, drop}
use Rattle.arrow_values.specs.Equal.{field_lists_eq, member_lists_eq}
use Rattle.arrow_values.proofs.tree.equal.+equal.Given as goal

abbrev pub invariant-same_fields-loop-i : goal.invariant-same_fields-loop-i
invariant-same_fields-loop-i l =
    (field_lists_eq l.ones l.others ≡ field_lists_eq (drop l.i l.ones) (drop l.i l.others))

abbrev pub invariant-same_members-loop-i : goal.invariant-same_members-loop-i
invariant-same_members-loop-i l =
    (member_lists_eq l.ones l.others ≡ member_lists_eq (drop l.i l.ones) (drop l.i l.others))
