-- The children of a root, element by element; and the columns that are marked so far.
use Rattle.std.proofs.Common.{◌≡◌, ℕ, zero, suc, ◌+◌, ◌-◌, ◌<◌, ◌≤◌, List, [], ◌∷◌, ◌++◌, length, map, drop, get_or, Option, Some, None, option_map, refl, sym, ap, ◌∙◌, append_assoc, arith}
use Rattle.std.proofs.lemmas.List.{at_drop_more, drop_all, append-nil, map-append, length-map}
use Rattle.std.proofs.lemmas.Option.{slice_get_past, slice_get_read}
use Rattle.std.specs.List.{slice_get}
use Rattle.std.specs.Slice.{IsItemAt}
use Rattle.std.specs.Borrow.{Bor}
use Rattle.arrow_columns.specs.Column.{column_tree}
use Rattle.arrow_columns.specs.Types.{ColumnTree}
use Rattle.arrow_columns.specs.declared.column.SchemaColumn.{SchemaColumn}
use Rattle.parquet_footer.specs.declared.element.SchemaElement.{SchemaElement}
use Rattle.parquet_footer.specs.Element.{Element, element}
use Rattle.parquet_footer.specs.Footer.{Pairing}
use Rattle.parquet_columns.specs.declared.claim.ElementClaim.{ElementClaim}
use Rattle.parquet_columns.specs.Geometry.{count_of, children_by, marked, marked_columns}
use Rattle.parquet_columns.specs.Claims.{claim, claim_of, claims}

child_first : {A : Type 0} (f : Element → List Element → A) (e : Element) (es : List Element) → children_by f 0 (e ∷ es) ≡ f e es ∷ children_by f (count_of e) es
unfolding children_by
child_first f e es = refl

child_passed : {A : Type 0} (f : Element → List Element → A) (below : ℕ) (e : Element) (es : List Element) → 0 < below → children_by f below (e ∷ es) ≡ children_by f (below - 1 + count_of e) es
unfolding children_by
child_passed f zero e es some = absurd (omega arith)
child_passed f (suc below) e es some = ap (λ n. children_by f (n + count_of e) es) (omega arith)

none_left : {A : Type 0} (f : Element → List Element → A) (below : ℕ) → children_by f below [] ≡ []
unfolding children_by
none_left f below = refl

-- what is made of the children so far, before what is made of those that are still to come
module _ {A X : Type 0} (f : Element → List Element → A) (view : X → A) (es : List SchemaElement) (i : ℕ) (made : List X) (below : ℕ)
    (so_far : map view made ++ children_by f below (map element (drop i es)) ≡ children_by f 0 (map element es)) where
  next_is : (e : SchemaElement) → i < length es → e ≡ get_or es i e → map view made ++ children_by f below (element e ∷ map element (drop (i + 1) es)) ≡ children_by f 0 (map element es)
  next_is e lt is =
      ap (λ (x : SchemaElement). map view made ++ children_by f below (element x ∷ map element (drop (i + 1) es))) is
      ∙ sym (at_drop_more (λ ys. map view made ++ children_by f below (map element ys)) es i e lt) ∙ so_far

  pub takes : (e : SchemaElement) (x : X) (after : List X) (next : ℕ) → after ≡ made ++ x ∷ [] → view x ≡ f (element e) (map element (drop (i + 1) es)) → next ≡ count_of (element e)
      → below ≡ 0 → i < length es → e ≡ get_or es i e → map view after ++ children_by f next (map element (drop (i + 1) es)) ≡ children_by f 0 (map element es)
  takes e x after next taken same count none lt is =
      let rest = map element (drop (i + 1) es) in
      let behind = children_by f (count_of (element e)) rest in
      ap (λ xs. map view xs ++ children_by f next rest) taken ∙ ap (λ n. map view (made ++ x ∷ []) ++ children_by f n rest) count
      ∙ ap (λ xs. xs ++ behind) (map-append view made (x ∷ [])) ∙ append_assoc (map view made) (view x ∷ []) behind
      ∙ ap (λ y. map view made ++ y ∷ behind) same
      ∙ ap (λ xs. map view made ++ xs) (sym (child_first f (element e) rest)) ∙ ap (λ n. map view made ++ children_by f n (element e ∷ rest)) (sym none) ∙ next_is e lt is

  pub passes : (e : SchemaElement) (after : List X) (next : ℕ) → after ≡ made → next ≡ below - 1 + count_of (element e) → 0 < below → i < length es → e ≡ get_or es i e
      → map view after ++ children_by f next (map element (drop (i + 1) es)) ≡ children_by f 0 (map element es)
  passes e after next same count some lt is =
      let rest = map element (drop (i + 1) es) in
      ap (λ xs. map view xs ++ children_by f next rest) same ∙ ap (λ n. map view made ++ children_by f n rest) count
      ∙ ap (λ xs. map view made ++ xs) (sym (child_passed f below (element e) rest some)) ∙ next_is e lt is

  pub all_found : length es ≤ i → map view made ≡ children_by f 0 (map element es)
  all_found past =
      sym (append-nil (map view made)) ∙ ap (λ xs. map view made ++ xs) (sym (none_left f below)) ∙ ap (λ ys. map view made ++ children_by f below (map element ys)) (sym (drop_all i es past)) ∙ so_far

-- an element at a place, whatever stands in for one past the end
pub same_item : (es : List SchemaElement) (i : ℕ) (d : SchemaElement) → i < length es → get_or es i d ≡ get_or es i (get_or es i d)
same_item [] i d lt = absurd (omega arith)
same_item (e ∷ es) zero d lt = refl
same_item (e ∷ es) (suc i) d lt = same_item es i d (omega arith)

-- one more column is marked
pub marked_more : (pairs : List Pairing) (es : List Element) (cs : List ColumnTree) (c : ColumnTree)
    → marked_columns pairs es (cs ++ c ∷ []) ≡ marked_columns pairs es cs ++ marked pairs (slice_get es (length cs)) c ∷ []
marked_more pairs [] [] c = refl
marked_more pairs (e ∷ es) [] c = refl
marked_more pairs [] (d ∷ cs) c = ap (λ xs. d ∷ xs) (marked_more pairs [] cs c)
marked_more pairs (e ∷ es) (d ∷ cs) c = ap (λ xs. marked pairs (Some e) d ∷ xs) (marked_more pairs es cs c)

pub marked-length : (pairs : List Pairing) (es : List Element) (cs : List ColumnTree) → length (marked_columns pairs es cs) ≡ length cs
marked-length pairs es [] = refl
marked-length pairs [] (c ∷ cs) = ap suc (marked-length pairs [] cs)
marked-length pairs (e ∷ es) (c ∷ cs) = ap suc (marked-length pairs es cs)

pub one_more : (pairs : List Pairing) (es : List Element) (made after yielded : List SchemaColumn) (m c : SchemaColumn) (child : Option Element) (at : ℕ)
    → map column_tree made ≡ marked_columns pairs es (map column_tree yielded) → at ≡ length made → child ≡ slice_get es at → column_tree m ≡ marked pairs child (column_tree c) → after ≡ made ++ m ∷ []
    → map column_tree after ≡ marked_columns pairs es (map column_tree (yielded ++ c ∷ []))
one_more pairs es made after yielded m c child at so_far place found marks is =
    let ys = map column_tree yielded in
    let k : at ≡ length ys = place ∙ sym (length-map made column_tree) ∙ ap length so_far ∙ marked-length pairs es ys in
    ap (map column_tree) is ∙ map-append column_tree made (m ∷ []) ∙ ap (λ xs. xs ++ column_tree m ∷ []) so_far
    ∙ ap (λ x. marked_columns pairs es ys ++ x ∷ []) (marks ∙ ap (λ o. marked pairs o (column_tree c)) (found ∙ ap (slice_get es) k))
    ∙ sym (marked_more pairs es ys (column_tree c)) ∙ ap (marked_columns pairs es) (sym (map-append column_tree yielded (c ∷ [])))

-- one more column has a claim
claims_more : (pairs : List Pairing) (es : List Element) (cs : List ColumnTree) (c : ColumnTree)
    → claims pairs es (cs ++ c ∷ []) ≡ claims pairs es cs ++ claim_of pairs (slice_get es (length cs)) c ∷ []
claims_more pairs [] [] c = refl
claims_more pairs (e ∷ es) [] c = refl
claims_more pairs [] (d ∷ cs) c = ap (λ xs. claim_of pairs None d ∷ xs) (claims_more pairs [] cs c)
claims_more pairs (e ∷ es) (d ∷ cs) c = ap (λ xs. claim_of pairs (Some e) d ∷ xs) (claims_more pairs es cs c)

pub one_said : (pairs : List Pairing) (es : List Element) (made after : List ElementClaim) (yielded : List SchemaColumn) (m : ElementClaim) (c : SchemaColumn) (child : Option Element) (at : ℕ)
    → map claim made ≡ claims pairs es (map column_tree yielded) → at ≡ length (map column_tree yielded) → child ≡ slice_get es at → claim m ≡ claim_of pairs child (column_tree c) → after ≡ made ++ m ∷ []
    → map claim after ≡ claims pairs es (map column_tree (yielded ++ c ∷ []))
one_said pairs es made after yielded m c child at so_far k found says is =
    let ys = map column_tree yielded in
    ap (map claim) is ∙ map-append claim made (m ∷ []) ∙ ap (λ xs. xs ++ claim m ∷ []) so_far
    ∙ ap (λ x. claims pairs es ys ++ x ∷ []) (says ∙ ap (λ o. claim_of pairs o (column_tree c)) (found ∙ ap (slice_get es) k))
    ∙ sym (claims_more pairs es ys (column_tree c)) ∙ ap (claims pairs es) (sym (map-append column_tree yielded (c ∷ [])))

pub child_is : (es : List SchemaElement) (k : ℕ) (r : Option (Bor SchemaElement)) → IsItemAt es k r → option_map (λ e. element e.now) r ≡ option_map element (slice_get es k)
child_is es k None item = sym (ap (option_map element) (slice_get_past es k item.3))
child_is es k (Some x) item = sym (ap (option_map element) (slice_get_read es (length es) k x.now refl item.3.0 item.1))
