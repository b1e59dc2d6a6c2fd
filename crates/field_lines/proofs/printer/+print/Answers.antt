use Rattle.std.proofs.Common.{◌≡◌, ℤ, List, codes, refl, w8, w32, w64, arith, rules}
use Rattle.field_lines.proofs.Terms.{FieldTree, fields_depth, members_depth, field_trees, member_trees, Data, number, array, Items, no_items, item, of_integer, sent, prints_array, prints_item, prints_end, value_of_field, type_value, fields_value, members_value}
use Rattle.arrow_values.specs.Tree.{depth}
use mir.Val.{to_z, of_z}
use Rattle.field_lines.proofs.Prints.{falls, rest_go_on, rest_end, finished, plain_value, prints_one_key, prints_two_keys, prints_parts, prints_text, prints_integer}
use Rattle.field_lines.proofs.printer.+print.Goals as goal

pub print_field-returns : goal.print_field-returns
print_field-returns t c = let f = c.args.field.now in
    let name = rw c.name.ensures at (sent c.in_ok-string.ensures) in
    let nullable = rw c.is_nullable.ensures at (sent c.in_ok-boolean.ensures) in
    let metadata = rw c.metadata.ensures at c.in_ok-print_metadata.ensures in
    let type = rw c.data_type.ensures at c.in_ok-print_type.ensures in
    finished _ (prints_parts f.name (type_value f.tree) f.nullable f.metadata (sent c.in_ok-begin_object.ensures) metadata (sent c.in_ok-key.ensures) name
    (sent c.in_ok-key-2.ensures) nullable (sent c.in_ok-key-3.ensures) type) c.end_object.ensures

pub print_list-returns : goal.print_list-returns
print_list-returns t c = finished _ (prints_one_key c.args.key.now (sent c.in_ok-begin_object.ensures) (sent c.in_ok-key.ensures) c.in_ok-print_field.ensures) c.end_object.ensures

pub print_fixed_size_list-returns : goal.print_fixed_size_list-returns
print_fixed_size_list-returns t c = let same : to_z w64 (of_z w64 (to_z w32 (of_z w32 c.args.size))) ≡ c.args.size = search rules in
    finished _ (prints_two_keys (codes "fixed_size_list") (codes "size") (λ x y. refl) (sent c.in_ok-begin_object.ensures) (sent c.in_ok-key.ensures)
    c.in_ok-print_field.ensures (sent c.in_ok-key-2.ensures) (prints_integer c.args.size (grind arith) (rw same at (sent c.in_ok-i64.ensures)))) c.end_object.ensures

-- the values of a struct's fields, and of a union's members
abbrev fields_values : List FieldTree → Items
fields_values fs = fields_value (field_trees fs)

abbrev members_values : List (ℤ × FieldTree) → Items
members_values ms = members_value (member_trees ms)

abbrev member_value : ℤ × FieldTree → Data
member_value m = array (item (number (of_integer m.0)) (item (value_of_field m.1) no_items))

pub print_struct-print_field-requires : goal.print_struct-print_field-requires
print_struct-print_field-requires t c = let is = c.as_slice-field-items.ensures in
    let low = falls (λ f. depth f.tree) (λ fs. fields_depth (field_trees fs)) (λ x xs. refl) _ _ _ is c.loop-field-test.true c.field-item.is in
    (omega arith, tt)

pub print_struct-loop-field-preserved : goal.print_struct-loop-field-preserved
print_struct-loop-field-preserved t c = rest_go_on value_of_field fields_values _ _ (λ x xs. refl) c.loop-field.invariant _ (omega arith) c.field-item.is c.in_ok-print_field.ensures

pub print_struct-returns : goal.print_struct-returns
print_struct-returns t c = let xs = c.as_slice-field-items in
    let l = c.loop-field in
    let fields = rest_end value_of_field fields_values xs.result.now l.field-index (λ x xs. refl) l.invariant refl (omega arith) xs.ensures (sent c.in_ok-end_array.ensures) in
    finished _ (prints_one_key (codes "struct") (sent c.in_ok-begin_object.ensures) (sent c.in_ok-key.ensures) (prints_array (sent c.in_ok-begin_array.ensures) fields)) c.end_object.ensures

pub print_union-print_member-requires : goal.print_union-print_member-requires
print_union-print_member-requires t c = let is = c.as_slice-member-items.ensures in
    let low = falls (λ m. depth m.1.tree) (λ ms. members_depth (member_trees ms)) (λ x xs. refl) _ _ _ is c.loop-member-test.true c.member-item.is in
    (omega arith, tt)

pub print_union-loop-member-preserved : goal.print_union-loop-member-preserved
print_union-loop-member-preserved t c = let same : to_z w8 (of_z w8 c.member-item.result.0) ≡ c.member-item.result.0 = search rules in
    let this = rw same at c.in_ok-print_member.ensures in
    rest_go_on member_value members_values _ _ (λ x xs. refl) c.loop-member.invariant _ (omega arith) c.member-item.is this

pub print_union-returns : goal.print_union-returns
print_union-returns t c = let xs = c.as_slice-member-items in
    let l = c.loop-member in
    let members = rest_end member_value members_values xs.result.now l.member-index (λ x xs. refl) l.invariant refl (omega arith) xs.ensures (sent c.in_ok-end_array.ensures) in
    finished _ (prints_two_keys (codes "mode") (codes "union") (λ x y. refl) (sent c.in_ok-begin_object.ensures) (sent c.in_ok-key.ensures)
    (prints_text (rw c.mode_name.ensures at (sent c.in_ok-string.ensures))) (sent c.in_ok-key-2.ensures) (prints_array (sent c.in_ok-begin_array.ensures) members)) c.end_object.ensures

pub print_member-returns : goal.print_member-returns
print_member-returns t c = let same : to_z w64 (of_z w64 (to_z w8 (of_z w8 c.args.id))) ≡ c.args.id = search rules in
    let id = prints_item (prints_integer c.args.id (grind arith) (rw same at (sent c.in_ok-i64.ensures))) in
    finished _ (λ e. prints_array (sent c.in_ok-begin_array.ensures) (id (prints_item c.in_ok-print_field.ensures (prints_end e)))) c.end_array.ensures

pub print_type-returns-in_default : goal.print_type-returns-in_default
print_type-returns-in_default t c = let n = c.in_default in
    rw (plain_value c.args.data_type.now n.not-List n.not-LargeList n.not-FixedSizeList n.not-Struct n.not-Union, ← c.plain_name.ensures) (finished _ prints_text c.string.ensures)
