-- Elements one after another: whether they are stored as their types ask; and their layouts.
use Rattle.std.proofs.Common.{◌≡◌, ℕ, zero, suc, ◌+◌, ◌-◌, ◌<◌, ◌≤◌, true, false, ◌&&◌, List, [], ◌∷◌, ◌++◌, length, map, drop, get_or, refl, sym, ap, ◌∙◌, append_assoc, arith}
use Rattle.std.proofs.lemmas.List.{at_drop_more, drop_all, append-nil, map-append}
use Rattle.parquet_footer.specs.declared.element.SchemaElement.{SchemaElement}
use Rattle.parquet_footer.specs.Element.{Element, element}
use Rattle.parquet_columns.specs.Geometry.{count_of}
use Rattle.parquet_columns.specs.Storage.{storage_of, is_stored}
use Rattle.parquet_columns.specs.declared.layouts.ElementLayout.{ElementLayout}
use Rattle.parquet_columns.specs.Layouts.{layout, are_stored, coordinate, below_lists, is_list, layout_of, layouts_in}

none_to_come : (n : ℕ) (es : List Element) → n ≡ 0 → are_stored n es ≡ true
unfolding are_stored
none_to_come zero es none = refl
none_to_come (suc n) es none = absurd (omega arith)

no_element : (n : ℕ) → are_stored n [] ≡ true
unfolding are_stored
no_element zero = refl
no_element (suc n) = refl

next_stored : (n : ℕ) (e : Element) (es : List Element) → 0 < n → are_stored n (e ∷ es) ≡ (is_stored (storage_of e) e && are_stored (n - 1 + count_of e) es)
unfolding are_stored
next_stored zero e es some = absurd (omega arith)
next_stored (suc n) e es some = ap (λ m. is_stored (storage_of e) e && are_stored (m + count_of e) es) (omega arith)

module _ (es : List SchemaElement) (i left : ℕ) (so_far : are_stored left (map element (drop i es)) ≡ are_stored 1 (map element es)) where
  stored_next : (e : SchemaElement) → i < length es → e ≡ get_or es i e → are_stored left (element e ∷ map element (drop (i + 1) es)) ≡ are_stored 1 (map element es)
  stored_next e lt is =
      ap (λ (x : SchemaElement). are_stored left (element x ∷ map element (drop (i + 1) es))) is ∙ sym (at_drop_more (λ ys. are_stored left (map element ys)) es i e lt) ∙ so_far

  pub stored_end : left ≡ 0 → true ≡ are_stored 1 (map element es)
  stored_end none = sym (none_to_come left (map element (drop i es)) none) ∙ so_far

  pub stored_all : length es ≤ i → true ≡ are_stored 1 (map element es)
  stored_all past = sym (no_element left) ∙ sym (ap (λ ys. are_stored left (map element ys)) (drop_all i es past)) ∙ so_far

  pub stored_not : (e : SchemaElement) → i < length es → e ≡ get_or es i e → 0 < left → is_stored (storage_of (element e)) (element e) ≡ false → false ≡ are_stored 1 (map element es)
  stored_not e lt is some false_is =
      let rest = map element (drop (i + 1) es) in
      sym (next_stored left (element e) rest some ∙ ap (λ b. b && are_stored (left - 1 + count_of (element e)) rest) false_is) ∙ stored_next e lt is

  pub stored_more : (e : SchemaElement) (next : ℕ) → i < length es → e ≡ get_or es i e → 0 < left → is_stored (storage_of (element e)) (element e) ≡ true → next ≡ left - 1 + count_of (element e)
      → are_stored next (map element (drop (i + 1) es)) ≡ are_stored 1 (map element es)
  stored_more e next lt is some true_is count =
      let rest = map element (drop (i + 1) es) in
      ap (λ n. are_stored n rest) count ∙ sym (next_stored left (element e) rest some ∙ ap (λ b. b && are_stored (left - 1 + count_of (element e)) rest) true_is) ∙ stored_next e lt is

-- the layout of an element, with what stands behind it
pub from_here : (es : List SchemaElement) (i : ℕ) (e : SchemaElement) → i < length es → e ≡ get_or es i e → layout_of (map element (drop i es)) ≡ layout_of (element e ∷ map element (drop (i + 1) es))
from_here es i e lt is = at_drop_more (λ ys. layout_of (map element ys)) es i e lt ∙ sym (ap (λ (x : SchemaElement). layout_of (element x ∷ map element (drop (i + 1) es))) is)

pub no_more_lists : (more lists : ℕ) (e : Element) (es : List Element) → more ≡ 0 → below_lists more lists e es ≡ coordinate lists e es
no_more_lists more lists e es none = ap (λ n. below_lists n lists e es) none

pub no_list : (more lists : ℕ) (e : Element) (es : List Element) → is_list e ≡ false → below_lists more lists e es ≡ coordinate lists e es
no_list zero lists e es none = refl
no_list (suc more) lists e es none = grind (arith, none)
