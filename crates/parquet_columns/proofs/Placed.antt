-- The children of a root with their places, element by element.
use Rattle.std.proofs.Common.{◌≡◌, ℕ, zero, suc, ◌+◌, ◌-◌, ◌<◌, ◌≤◌, List, [], ◌∷◌, ◌++◌, length, map, drop, get_or, Option, Some, None, option_map, refl, sym, ap, ◌∙◌, append_assoc, arith}
use Rattle.std.proofs.lemmas.List.{at_drop_more, drop_all, append-nil}
use Rattle.std.proofs.lemmas.Option.{slice_get_past, slice_get_read}
use Rattle.std.specs.List.{slice_get}
use Rattle.std.specs.Slice.{IsItemAt}
use Rattle.std.specs.Borrow.{Bor}
use Rattle.parquet_footer.specs.declared.element.SchemaElement.{SchemaElement}
use Rattle.parquet_footer.specs.Element.{Element, element}
use Rattle.parquet_columns.specs.Geometry.{count_of}
use Rattle.parquet_columns.specs.declared.places.Child as declared
use Rattle.parquet_columns.specs.Places.{Child, child, child_at, children_from, missing_from}

child_first : (at : ℕ) (e : Element) (es : List Element) → children_from at 0 (e ∷ es) ≡ child_at at e ∷ children_from (at + 1) (count_of e) es
unfolding children_from
child_first at e es = refl

child_passed : (at below : ℕ) (e : Element) (es : List Element) → 0 < below → children_from at below (e ∷ es) ≡ children_from (at + 1) (below - 1 + count_of e) es
unfolding children_from
child_passed at zero e es some = absurd (omega arith)
child_passed at (suc below) e es some = ap (λ n. children_from (at + 1) (n + count_of e) es) (omega arith)

none_left : (at below : ℕ) → children_from at below [] ≡ []
unfolding children_from
none_left at below = refl

missing_first : (e : Element) (es : List Element) → missing_from 0 (e ∷ es) ≡ missing_from (count_of e) es
unfolding missing_from
missing_first e es = refl

missing_passed : (below : ℕ) (e : Element) (es : List Element) → 0 < below → missing_from below (e ∷ es) ≡ missing_from (below - 1 + count_of e) es
unfolding missing_from
missing_passed zero e es some = absurd (omega arith)
missing_passed (suc below) e es some = ap (λ n. missing_from (n + count_of e) es) (omega arith)

missing_there : (below : ℕ) → missing_from below [] ≡ below
unfolding missing_from
missing_there below = refl

module _ (es : List SchemaElement) (i at : ℕ) (found : List Child) (below : ℕ) where
  module _ (so_far : found ++ children_from at below (map element (drop i es)) ≡ children_from 1 0 (map element es)) where
    next_is : (e : SchemaElement) → i < length es → e ≡ get_or es i e → found ++ children_from at below (element e ∷ map element (drop (i + 1) es)) ≡ children_from 1 0 (map element es)
    next_is e lt is =
        ap (λ (x : SchemaElement). found ++ children_from at below (element x ∷ map element (drop (i + 1) es))) is
        ∙ sym (at_drop_more (λ ys. found ++ children_from at below (map element ys)) es i e lt) ∙ so_far

    pub takes : (e : SchemaElement) (after : List Child) (next : ℕ) → after ≡ found ++ child_at at (element e) ∷ [] → next ≡ count_of (element e) → below ≡ 0 → i < length es → e ≡ get_or es i e
        → after ++ children_from (at + 1) next (map element (drop (i + 1) es)) ≡ children_from 1 0 (map element es)
    takes e after next taken count none lt is =
        let rest = map element (drop (i + 1) es) in
        let behind = children_from (at + 1) (count_of (element e)) rest in
        ap (λ xs. xs ++ children_from (at + 1) next rest) taken ∙ ap (λ n. (found ++ child_at at (element e) ∷ []) ++ children_from (at + 1) n rest) count
        ∙ append_assoc found (child_at at (element e) ∷ []) behind ∙ ap (λ xs. found ++ xs) (sym (child_first at (element e) rest))
        ∙ ap (λ n. found ++ children_from at n (element e ∷ rest)) (sym none) ∙ next_is e lt is

    pub passes : (e : SchemaElement) (after : List Child) (next : ℕ) → after ≡ found → next ≡ below - 1 + count_of (element e) → 0 < below → i < length es → e ≡ get_or es i e
        → after ++ children_from (at + 1) next (map element (drop (i + 1) es)) ≡ children_from 1 0 (map element es)
    passes e after next same count some lt is =
        let rest = map element (drop (i + 1) es) in
        ap (λ xs. xs ++ children_from (at + 1) next rest) same ∙ ap (λ n. found ++ children_from (at + 1) n rest) count
        ∙ ap (λ xs. found ++ xs) (sym (child_passed at below (element e) rest some)) ∙ next_is e lt is

    pub all_found : length es ≤ i → found ≡ children_from 1 0 (map element es)
    all_found past =
        sym (append-nil found) ∙ ap (λ xs. found ++ xs) (sym (none_left at below)) ∙ ap (λ ys. found ++ children_from at below (map element ys)) (sym (drop_all i es past)) ∙ so_far

module _ (es : List SchemaElement) (i below : ℕ) (left : missing_from below (map element (drop i es)) ≡ missing_from 0 (map element es)) where
  here_left : (e : SchemaElement) → i < length es → e ≡ get_or es i e → missing_from below (element e ∷ map element (drop (i + 1) es)) ≡ missing_from 0 (map element es)
  here_left e lt is =
      ap (λ (x : SchemaElement). missing_from below (element x ∷ map element (drop (i + 1) es))) is
      ∙ sym (at_drop_more (λ ys. missing_from below (map element ys)) es i e lt) ∙ left

  pub left_first : (e : SchemaElement) (next : ℕ) → next ≡ count_of (element e) → below ≡ 0 → i < length es → e ≡ get_or es i e → missing_from next (map element (drop (i + 1) es)) ≡ missing_from 0 (map element es)
  left_first e next count none lt is =
      let rest = map element (drop (i + 1) es) in
      ap (λ n. missing_from n rest) count ∙ sym (missing_first (element e) rest) ∙ ap (λ n. missing_from n (element e ∷ rest)) (sym none) ∙ here_left e lt is

  pub left_passed : (e : SchemaElement) (next : ℕ) → next ≡ below - 1 + count_of (element e) → 0 < below → i < length es → e ≡ get_or es i e → missing_from next (map element (drop (i + 1) es)) ≡ missing_from 0 (map element es)
  left_passed e next count some lt is =
      let rest = map element (drop (i + 1) es) in
      ap (λ n. missing_from n rest) count ∙ sym (missing_passed below (element e) rest some) ∙ here_left e lt is

  pub all_left : length es ≤ i → below ≡ missing_from 0 (map element es)
  all_left past = sym (missing_there below) ∙ ap (λ ys. missing_from below (map element ys)) (sym (drop_all i es past)) ∙ left

-- the child at a place
pub place_is : (cs : List declared.Child) (k : ℕ) (r : Option (Bor declared.Child)) → IsItemAt cs k r → option_map (λ c. child c.now) r ≡ option_map child (slice_get cs k)
place_is cs k None item = sym (ap (option_map child) (slice_get_past cs k item.3))
place_is cs k (Some x) item = sym (ap (option_map child) (slice_get_read cs (length cs) k x.now refl item.3.0 item.1))
