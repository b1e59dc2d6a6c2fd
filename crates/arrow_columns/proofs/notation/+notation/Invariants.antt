use Rattle.std.proofs.Common.{◌+◌, ◌*◌}
use Rattle.arrow_values.specs.Tree.{depth, fields_depth, members_depth}
use Rattle.arrow_values.specs.View.{tree, field_trees, member_trees}
use Rattle.arrow_columns.specs.Notation.{field_texts, member_texts}
use Rattle.arrow_columns.proofs.Steps.{TextsRest}
use Rattle.arrow_columns.proofs.notation.+notation.Given as goal

abbrev pub decreases-data_type_notation : goal.decreases-data_type_notation
decreases-data_type_notation l = 3 * depth (tree l.data_type.now)

abbrev pub decreases-list_notation : goal.decreases-list_notation
decreases-list_notation l = 3 * depth l.field.now.tree + 2

abbrev pub decreases-field_notation : goal.decreases-field_notation
decreases-field_notation l = 3 * depth l.field.now.tree + 1

abbrev pub decreases-struct_notation : goal.decreases-struct_notation
decreases-struct_notation l = 3 * fields_depth (field_trees l.fields.now) + 1

abbrev pub decreases-union_notation : goal.decreases-union_notation
decreases-union_notation l = 3 * members_depth (member_trees l.members.now) + 1

abbrev pub invariant-struct_notation-loop-field : goal.invariant-struct_notation-loop-field
invariant-struct_notation-loop-field l = TextsRest (λ fs. field_texts (field_trees fs)) l.field-items l.field-index l.parts.items

abbrev pub invariant-union_notation-loop-member : goal.invariant-union_notation-loop-member
invariant-union_notation-loop-member l = TextsRest (λ ms. member_texts (member_trees ms)) l.member-items l.member-index l.parts.items
