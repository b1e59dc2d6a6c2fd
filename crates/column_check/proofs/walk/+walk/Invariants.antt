use Rattle.std.proofs.Common.{◌≡◌, ◌+◌, ◌*◌, drop}
use Rattle.arrow_values.specs.Tree.{depth, fields_depth, members_depth}
use Rattle.arrow_values.specs.View.{tree, field_trees, member_trees}
use Rattle.column_check.specs.Walk.{names_on, code_of, found_of, found_among, telling, tell_all}
use Rattle.column_check.proofs.walk.+walk.Given as goal

abbrev pub decreases-push_found : goal.decreases-push_found
decreases-push_found l = 3 * depth (tree l.data_type.now) + 1

abbrev pub decreases-push_fields : goal.decreases-push_fields
decreases-push_fields l = 3 * fields_depth (field_trees l.fields.now)

abbrev pub decreases-push_members : goal.decreases-push_members
decreases-push_members l = 3 * members_depth (member_trees l.members.now)

abbrev pub decreases-push_at : goal.decreases-push_at
decreases-push_at l = 3 * depth l.field.now.tree + 2

abbrev pub invariant-push_fields-loop-field : goal.invariant-push_fields-loop-field
invariant-push_fields-loop-field l =
    tell_all (code_of l.sought) (telling l.warnings.items l.rest) (found_of l.sought (names_on l.way) (field_trees (drop l.field-index l.fields)))
    ≡ tell_all (code_of l.sought) (telling l.fn.warnings.items l.fn.rest) (found_of l.sought (names_on l.way) (field_trees l.fields))

abbrev pub invariant-push_members-loop-member : goal.invariant-push_members-loop-member
invariant-push_members-loop-member l =
    tell_all (code_of l.sought) (telling l.warnings.items l.rest) (found_among l.sought (names_on l.way) (member_trees (drop l.member-index l.members)))
    ≡ tell_all (code_of l.sought) (telling l.fn.warnings.items l.fn.rest) (found_among l.sought (names_on l.way) (member_trees l.members))
