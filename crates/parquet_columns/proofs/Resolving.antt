-- Stored columns that are resolved, one after the other.
use Rattle.std.proofs.Common.{◌≡◌, ◌<◌, ℕ, suc, ◌+◌, Bool, true, false, not, ◌&&◌, ◌||◌, if◌then◌else◌, List, [], ◌∷◌, ◌++◌, length, map, take, get_or, Option, Some, None, option_map, refl, sym, ap, ◌∙◌, arith}
use Rattle.std.proofs.lemmas.List.{map-append, length-map, append-nil, length-take-le, take-map, take_more}
use Rattle.std.proofs.lemmas.List.Concat.{flat_map-append}
use Rattle.std.specs.List.{slice_get}
use Rattle.json.specs.Json.{Json}
use Rattle.arrow_columns.specs.Column.{column_tree, name_on}
use Rattle.arrow_columns.specs.Types.{ColumnTree}
use Rattle.arrow_columns.specs.declared.column.SchemaColumn.{SchemaColumn}
use Rattle.parquet_footer.specs.Element.{Element}
use Rattle.parquet_columns.specs.declared.finding.FileFinding.{FileFinding}
use Rattle.parquet_columns.specs.declared.resolved.Resolution as declared
use Rattle.parquet_columns.specs.Findings.{finding}
use Rattle.parquet_columns.specs.Fits.{type_fits}
use Rattle.parquet_columns.specs.Unreadable.{is_unreadable}
use Rattle.parquet_columns.specs.Resolutions.{resolution}
use Rattle.parquet_columns.specs.Reserved.{is_reserved}
use Rattle.parquet_columns.specs.Resolved.{Beside, Resolution, may_hold, as_it_is, bare, may_take, holds_wkb, takes_type, takes_from, beside_at, resolve_by, resolve_with, resolve, resolved_from, resolved, listed, resolved_columns, resolved_findings, resolved_refuted, is_misfit, is_asked, is_one_asked}

resolved_more : (g : Option Json) (at : ℕ → Beside) (k : ℕ) (ss : List ColumnTree) (s : ColumnTree)
    → resolved_from g at k (ss ++ s ∷ []) ≡ resolved_from g at k ss ++ resolve g (at (k + length ss)) s ∷ []
resolved_more g at k [] s =
    let here : k ≡ k + 0 = omega arith in
    ap (λ n. resolve g (at n) s ∷ []) here
resolved_more g at k (d ∷ ss) s =
    let here : suc k + length ss ≡ k + suc (length ss) = omega arith in
    ap (λ xs. resolve g (at k) d ∷ xs) (resolved_more g at (suc k) ss s ∙ ap (λ n. resolved_from g at (suc k) ss ++ resolve g (at n) s ∷ []) here)

resolved-length : (g : Option Json) (at : ℕ → Beside) (k : ℕ) (ss : List ColumnTree) → length (resolved_from g at k ss) ≡ length ss
resolved-length g at k [] = refl
resolved-length g at k (s ∷ ss) = ap suc (resolved-length g at (suc k) ss)

module _ (g : Option Json) (at : ℕ → Beside) (made yielded : List SchemaColumn) (c : SchemaColumn) (there : Beside) (k : ℕ)
    (so_far : map column_tree made ≡ resolved_columns (resolved_from g at 0 (map column_tree yielded))) (place : k ≡ length made) (there_is : there ≡ at k) where
  here : k ≡ length (map column_tree yielded)
  here =
      let done = resolved_from g at 0 (map column_tree yielded) in
      place ∙ sym (length-map made column_tree) ∙ ap length so_far ∙ length-map done (λ r. r.column) ∙ resolved-length g at 0 (map column_tree yielded)

  one_more : resolved_from g at 0 (map column_tree (yielded ++ c ∷ [])) ≡ resolved_from g at 0 (map column_tree yielded) ++ resolve g there (column_tree c) ∷ []
  one_more =
      let ys = map column_tree yielded in
      let zero_more : 0 + length ys ≡ length ys = omega arith in
      let b : at (length ys) ≡ there = sym (there_is ∙ ap at here) in
      ap (resolved_from g at 0) (map-append column_tree yielded (c ∷ [])) ∙ resolved_more g at 0 ys (column_tree c)
      ∙ ap (λ n. resolved_from g at 0 ys ++ resolve g (at n) (column_tree c) ∷ []) zero_more
      ∙ ap (λ x. resolved_from g at 0 ys ++ resolve g x (column_tree c) ∷ []) b

  module _ (new : declared.Resolution) (are : resolution new ≡ resolve g there (column_tree c)) where
    pub one_column : (after : List SchemaColumn) → after ≡ made ++ new.column ∷ [] → map column_tree after ≡ resolved_columns (resolved_from g at 0 (map column_tree (yielded ++ c ∷ [])))
    one_column after is =
        let done = resolved_from g at 0 (map column_tree yielded) in
        ap (map column_tree) is ∙ map-append column_tree made (new.column ∷ []) ∙ ap (λ xs. xs ++ column_tree new.column ∷ []) so_far
        ∙ ap (λ (r : Resolution). resolved_columns done ++ r.column ∷ []) are
        ∙ sym (map-append (λ (r : Resolution). r.column) done (resolve g there (column_tree c) ∷ [])) ∙ ap resolved_columns (sym one_more)

    pub one_finding : (before after : List FileFinding) → map finding before ≡ resolved_findings (resolved_from g at 0 (map column_tree yielded))
        → map finding after ≡ map finding before ++ listed (option_map finding new.found) → map finding after ≡ resolved_findings (resolved_from g at 0 (map column_tree (yielded ++ c ∷ [])))
    one_finding before after findings is =
        let done = resolved_from g at 0 (map column_tree yielded) in
        is ∙ ap (λ xs. xs ++ listed (option_map finding new.found)) findings
        ∙ ap (λ (r : Resolution). resolved_findings done ++ listed r.found) are
        ∙ ap (λ xs. resolved_findings done ++ xs) (sym (append-nil (listed (resolve g there (column_tree c)).found)))
        ∙ sym (flat_map-append (λ (r : Resolution). listed r.found) done (resolve g there (column_tree c) ∷ [])) ∙ ap resolved_findings (sym one_more)

    pub one_flag : (before after : List Bool) → before ≡ resolved_refuted (resolved_from g at 0 (map column_tree yielded)) → after ≡ before ++ new.refuted ∷ []
        → after ≡ resolved_refuted (resolved_from g at 0 (map column_tree (yielded ++ c ∷ [])))
    one_flag before after flags is =
        let done = resolved_from g at 0 (map column_tree yielded) in
        is ∙ ap (λ xs. xs ++ new.refuted ∷ []) flags ∙ ap (λ (r : Resolution). resolved_refuted done ++ r.refuted ∷ []) are
        ∙ sym (map-append (λ (r : Resolution). r.refuted) done (resolve g there (column_tree c) ∷ [])) ∙ ap resolved_refuted (sym one_more)

-- one more column takes the type of its element, or does not
takes_more : (g : Option Json) (es : List Element) (all : List ColumnTree) (k : ℕ) (ss : List ColumnTree) (s : ColumnTree)
    → takes_from g es all k (ss ++ s ∷ []) ≡ takes_from g es all k ss ++ takes_type g (take (k + length ss) all) (slice_get es (k + length ss)) s ∷ []
takes_more g es all k [] s =
    let here : k ≡ k + 0 = omega arith in
    ap (λ n. takes_type g (take n all) (slice_get es n) s ∷ []) here
takes_more g es all k (d ∷ ss) s =
    let here : suc k + length ss ≡ k + suc (length ss) = omega arith in
    ap (λ xs. takes_type g (take k all) (slice_get es k) d ∷ xs)
    (takes_more g es all (suc k) ss s ∙ ap (λ n. takes_from g es all (suc k) ss ++ takes_type g (take n all) (slice_get es n) s ∷ []) here)

pub one_taken : (g : Option Json) (es : List Element) (stored : List SchemaColumn) (i : ℕ) (c : SchemaColumn) (before after : List Bool) (taken : Bool)
    → before ≡ takes_from g es (map column_tree stored) 0 (map column_tree (take i stored)) → i < length stored → c ≡ get_or stored i c
    → taken ≡ takes_type g (map column_tree (take i stored)) (slice_get es i) (column_tree c) → after ≡ before ++ taken ∷ []
    → after ≡ takes_from g es (map column_tree stored) 0 (map column_tree (take (i + 1) stored))
one_taken g es stored i c before after taken so_far lt is takes adds =
    let all = map column_tree stored in
    let some = take i stored in
    let size : length (map column_tree some) ≡ i = length-map some column_tree ∙ length-take-le i stored (omega (arith, lt)) in
    let zero_more : 0 + length (map column_tree some) ≡ i = omega (arith, size) in
    let next : take (i + 1) stored ≡ some ++ c ∷ [] = take_more stored i c lt ∙ ap (λ x. some ++ x ∷ []) (sym is) in
    adds ∙ ap (λ xs. xs ++ taken ∷ []) so_far ∙ ap (λ b. takes_from g es all 0 (map column_tree some) ++ b ∷ []) (takes ∙ ap (λ xs. takes_type g xs (slice_get es i) (column_tree c)) (sym (take-map column_tree i stored)))
    ∙ sym (ap (λ n. takes_from g es all 0 (map column_tree some) ++ takes_type g (take n all) (slice_get es n) (column_tree c) ∷ []) zero_more)
    ∙ sym (takes_more g es all 0 (map column_tree some) (column_tree c))
    ∙ ap (takes_from g es all 0) (sym (map-append column_tree some (c ∷ []))) ∙ ap (λ xs. takes_from g es all 0 (map column_tree xs)) (sym next)

-- where the metadata at `geo` decide of no column, it makes no difference what they are
fitting : (u b h i t : Bool) (c d s : ColumnTree) → not b ≡ false
    → (if u then as_it_is (bare c) else resolve_by b h t c d s) ≡ (if u then as_it_is (bare c) else resolve_by b i t c d s)
fitting u true h i t c d s fits = refl
fitting u false h i t c d s fits = absurd (cc)

alike_with : (g : Option Json) (b : Beside) (c t : Option ColumnTree) (s : ColumnTree) → is_misfit t s ≡ false → resolve_with g b c t s ≡ resolve_with None b c t s
alike_with g b None t s fits = refl
alike_with g b (Some c) None s fits = refl
alike_with g b (Some c) (Some t) s fits = fitting (is_unreadable c.data_type) (type_fits t.data_type s.data_type) (may_hold g b.element s) (may_hold None b.element s) b.takes c t s fits

untaken : (g : Option Json) (before : List ColumnTree) (e : Option Element) (s : ColumnTree) → may_take e s ≡ false → takes_type g before e s ≡ takes_type None before e s
untaken g before e s is =
    ap (λ b. b && (not (is_reserved (name_on s)) && holds_wkb g before e s)) is ∙ sym (ap (λ b. b && (not (is_reserved (name_on s)) && holds_wkb None before e s)) is)

left : (a b : Bool) → (a || b) ≡ false → a ≡ false
left true b e = absurd (cc)
left false b e = refl

right : (a b : Bool) → (a || b) ≡ false → b ≡ false
right true b e = absurd (cc)
right false b e = e

module _ (k : ℕ) (es : List Element) (ts : List ColumnTree) (s : ColumnTree) (ss : List ColumnTree) (none : is_one_asked k es ts (s ∷ ss) ≡ false) where
  abbrev asked : Bool
  asked = is_asked (slice_get es k) (slice_get ts k) s

  fits_here : is_misfit (slice_get ts k) s ≡ false
  fits_here = left (is_misfit (slice_get ts k) s) (may_take (slice_get es k) s) (left asked (is_one_asked (k + 1) es ts ss) none)

  takes_none_here : may_take (slice_get es k) s ≡ false
  takes_none_here = right (is_misfit (slice_get ts k) s) (may_take (slice_get es k) s) (left asked (is_one_asked (k + 1) es ts ss) none)

  none_behind : is_one_asked (suc k) es ts ss ≡ false
  none_behind =
      let next : k + 1 ≡ suc k = omega arith in
      ap (λ n. is_one_asked n es ts ss) (sym next) ∙ right asked (is_one_asked (k + 1) es ts ss) none

none_taken : (g : Option Json) (es : List Element) (ts all : List ColumnTree) (k : ℕ) (ss : List ColumnTree) → is_one_asked k es ts ss ≡ false → takes_from g es all k ss ≡ takes_from None es all k ss
none_taken g es ts all k [] none = refl
none_taken g es ts all k (s ∷ ss) none =
    ap (λ b. b ∷ takes_from g es all (suc k) ss) (untaken g (take k all) (slice_get es k) s (takes_none_here k es ts s ss none))
    ∙ ap (λ bs. takes_type None (take k all) (slice_get es k) s ∷ bs) (none_taken g es ts all (suc k) ss (none_behind k es ts s ss none))

none_resolved : (g : Option Json) (es : List Element) (cs ts : List ColumnTree) (takes : List Bool) (k : ℕ) (ss : List ColumnTree) → is_one_asked k es ts ss ≡ false
    → resolved_from g (beside_at es cs ts takes) k ss ≡ resolved_from None (beside_at es cs ts takes) k ss
none_resolved g es cs ts takes k [] none = refl
none_resolved g es cs ts takes k (s ∷ ss) none =
    ap (λ x. x ∷ resolved_from g (beside_at es cs ts takes) (suc k) ss)
    (alike_with g (beside_at es cs ts takes k) (slice_get cs k) (slice_get ts k) s (fits_here k es ts s ss none))
    ∙ ap (λ xs. resolve None (beside_at es cs ts takes k) s ∷ xs) (none_resolved g es cs ts takes (suc k) ss (none_behind k es ts s ss none))

pub unasked : (g : Option Json) (es : List Element) (cs ts ss : List ColumnTree) → is_one_asked 0 es ts ss ≡ false → resolved g es cs ts ss ≡ resolved None es cs ts ss
unasked g es cs ts ss none =
    none_resolved g es cs ts (takes_from g es ss 0 ss) 0 ss none ∙ ap (λ takes. resolved_from None (beside_at es cs ts takes) 0 ss) (none_taken g es ts ss 0 ss none)
