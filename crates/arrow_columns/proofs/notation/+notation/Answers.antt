use Rattle.std.proofs.Common.{refl, ap, ap₂, ◌∙◌, map, codes, string_bytes, arith}
use Rattle.std.proofs.lemmas.Result.{IfOk-weaker}
use Rattle.arrow_values.specs.Tree.{depth, fields_depth, members_depth}
use Rattle.arrow_values.specs.View.{field_trees, member_trees}
use Rattle.arrow_columns.specs.Notation.{field_text, member_text, field_texts, member_texts, nested_text}
use Rattle.arrow_columns.proofs.Steps.{falls, ends}
use Rattle.arrow_columns.proofs.notation.+notation.Goals as goal

pub struct_notation-field_notation-requires : goal.struct_notation-field_notation-requires
struct_notation-field_notation-requires t c =
    let is = c.as_slice-field-items.ensures in
    let low = falls (λ f. depth f.tree) (λ fs. fields_depth (field_trees fs)) (λ x xs. refl) _ _ _ is c.loop-field-test.true c.field-item.is in
    (omega arith, tt)

pub struct_notation-returns : goal.struct_notation-returns
struct_notation-returns t c =
    let xs = c.as_slice-field-items in
    let l = c.loop-field in
    let are = ends field_text (λ fs. field_texts (field_trees fs)) xs.result.now l.field-index l.parts.items (λ x xs. refl) l.invariant refl (omega arith) xs.ensures in
    IfOk-weaker c.nested_notation.result _ _ (λ text e. e ∙ ap (nested_text (codes "struct")) (ap (map string_bytes) c.as_slice.ensures.value ∙ are)) c.nested_notation.ensures

pub union_notation-field_notation-requires : goal.union_notation-field_notation-requires
union_notation-field_notation-requires t c =
    let is = c.as_slice-member-items.ensures in
    let low = falls (λ m. depth m.1.tree) (λ ms. members_depth (member_trees ms)) (λ x xs. refl) _ _ _ is c.loop-member-test.true c.member-item.is in
    (omega arith, tt)

pub union_notation-returns : goal.union_notation-returns
union_notation-returns t c =
    let xs = c.as_slice-member-items in
    let l = c.loop-member in
    let are = ends (λ m. member_text (field_text m.1) m.0) (λ ms. member_texts (member_trees ms)) xs.result.now l.member-index l.parts.items (λ x xs. refl) l.invariant refl (omega arith) xs.ensures in
    IfOk-weaker c.nested_notation.result _ _ (λ text e. e ∙ ap₂ nested_text c.union_word.ensures (ap (map string_bytes) c.as_slice.ensures.value ∙ are)) c.nested_notation.ensures
