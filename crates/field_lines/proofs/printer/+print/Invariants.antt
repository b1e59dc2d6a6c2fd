use Rattle.std.proofs.Common.{◌+◌, ◌*◌}
use Rattle.field_lines.proofs.Terms.{fields_depth, members_depth, tree, field_trees, member_trees, fields_value, members_value}
use Rattle.arrow_values.specs.Tree.{depth}
use Rattle.field_lines.proofs.Prints.{PrintsRest}
use Rattle.field_lines.proofs.printer.+print.Given as goal

abbrev pub decreases-print_field : goal.decreases-print_field
decreases-print_field l = 4 * depth l.field.now.tree + 1

abbrev pub decreases-print_type : goal.decreases-print_type
decreases-print_type l = 4 * depth (tree l.data_type.now)

abbrev pub decreases-print_list : goal.decreases-print_list
decreases-print_list l = 4 * depth l.field.now.tree + 2

abbrev pub decreases-print_fixed_size_list : goal.decreases-print_fixed_size_list
decreases-print_fixed_size_list l = 4 * depth l.field.now.tree + 2

abbrev pub decreases-print_struct : goal.decreases-print_struct
decreases-print_struct l = 4 * fields_depth (field_trees l.fields.now) + 2

abbrev pub decreases-print_union : goal.decreases-print_union
decreases-print_union l = 4 * members_depth (member_trees l.members.now) + 2

abbrev pub decreases-print_member : goal.decreases-print_member
decreases-print_member l = 4 * depth l.field.now.tree + 2

abbrev pub invariant-print_struct-loop-field : goal.invariant-print_struct-loop-field
invariant-print_struct-loop-field l = PrintsRest (λ fs. fields_value (field_trees fs)) l.field-items l.field-index l.initial.out l.out

abbrev pub invariant-print_union-loop-member : goal.invariant-print_union-loop-member
invariant-print_union-loop-member l = PrintsRest (λ ms. members_value (member_trees ms)) l.member-items l.member-index l.initial.out l.out
