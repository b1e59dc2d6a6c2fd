-- What a report says of each field, counted and listed.
use Rattle.std.proofs.Common.{◌≡◌, ◌+◌, ◌<◌, ◌∙◌, ℕ, take, get_or, arith, inl, inr, refl, sym, ap, subst, Bool, true, false, cond, List, [], ◌∷◌, ◌++◌, length}
use Rattle.std.specs.Prelude.{count_by}
use Rattle.std.proofs.lemmas.List.{take_more, length-take-le, append-nil}
use Rattle.std.proofs.lemmas.List.Sums.{sum_by-cons}
use Rattle.arrow_values.specs.Tree.{FieldTree}
use Rattle.arrow_values.specs.Texts.{extension_metadata}
use Rattle.geoarrow_layout.specs.Kinds.{extension_of}
use Rattle.geoarrow_meta.specs.Read.{DenotesMetadata}
use Rattle.geoarrow_native.specs.Column.{ReadsAs}
use Rattle.geoarrow_schema.specs.declared.types.GeoArrowType.{GeoArrowType}
use Rattle.geoarrow_schema.specs.Types.{kind_of, meta_of}
use Rattle.geoarrow_schema.specs.Reads.{HasGeoArrowName, Reads}
use Rattle.geoarrow_schema.specs.Infers.{InfersAs, Infers}
use Rattle.geoarrow_columns.specs.declared.check.Column.{Column}
use Rattle.geoarrow_columns.specs.declared.check.Column.TheVariants.{Geometry, Inferred, Other, Faulty}
use Rattle.geoarrow_columns.specs.declared.check.ColumnFault.TheVariants.{Arrow, InvalidGeoArrow}
use Rattle.geoarrow_columns.specs.declared.check.ColumnFault.{ColumnFault}
use Rattle.geoarrow_columns.specs.Report.{IsColumnOf, IsReport}
use Rattle.uses.specs.Survey.{IsCount, ArePlaces, IsGeometry, IsFaulty, is_geometry, is_faulty, places_of}

-- a field that is read has a GeoArrow name
named : (f : FieldTree) (g : GeoArrowType) → Reads f g → HasGeoArrowName f
unfolding ReadsAs
named f g r = (extension_of (kind_of g), r.0.0)

-- one that is taken for a type has none
unnamed : (f : FieldTree) (g : GeoArrowType) → Infers f g → ¬ HasGeoArrowName f
unfolding InfersAs
unnamed f g h = h.0

-- and its metadata text denotes a metadata
stands : (f : FieldTree) (g : GeoArrowType) → Infers f g → DenotesMetadata (extension_metadata f) (meta_of g)
unfolding InfersAs
stands f g h = h.1

yes_geometry : (f : FieldTree) (c : Column) → IsColumnOf f c → is_geometry c ≡ true → IsGeometry f
yes_geometry f (Geometry g) h holds = (g, h)
yes_geometry f (Inferred g) h holds = absurd cc
yes_geometry f Other h holds = absurd cc
yes_geometry f (Faulty fault) h holds = absurd cc

no_geometry : (f : FieldTree) (c : Column) → IsColumnOf f c → is_geometry c ≡ false → ¬ IsGeometry f
no_geometry f (Geometry g) h fails r = absurd cc
no_geometry f (Inferred g) h fails r = unnamed f g h (named f r.0 r.1)
no_geometry f Other h fails r = h.0 (named f r.0 r.1)
no_geometry f (Faulty InvalidGeoArrow) h fails r = h.0.1 (kind_of r.0) (meta_of r.0) r.1
no_geometry f (Faulty Arrow) (inl h) fails r = h.0.1 (kind_of r.0) (meta_of r.0) r.1
no_geometry f (Faulty Arrow) (inr h) fails r = h.0 (named f r.0 r.1)

yes_faulty : (f : FieldTree) (c : Column) → IsColumnOf f c → is_faulty c ≡ true → IsFaulty f
yes_faulty f (Geometry g) h holds = absurd cc
yes_faulty f (Inferred g) h holds = absurd cc
yes_faulty f Other h holds = absurd cc
yes_faulty f (Faulty InvalidGeoArrow) h holds = inl h.0
yes_faulty f (Faulty Arrow) (inl h) holds = inl h.0
yes_faulty f (Faulty Arrow) (inr h) holds = inr h

no_faulty : (f : FieldTree) (c : Column) → IsColumnOf f c → is_faulty c ≡ false → ¬ IsFaulty f
no_faulty f (Geometry g) h fails (inl r) = r.1 (kind_of g) (meta_of g) h
no_faulty f (Geometry g) h fails (inr u) = u.0 (named f g h)
no_faulty f (Inferred g) h fails (inl r) = unnamed f g h r.0
no_faulty f (Inferred g) h fails (inr u) = u.1 (meta_of g) (stands f g h)
no_faulty f Other h fails (inl r) = h.0 r.0
no_faulty f Other h fails (inr u) = u.1 h.2.0 h.2.1
no_faulty f (Faulty fault) h fails r = absurd cc

-- one field more, counted
count_next : (f : FieldTree) (fs : List FieldTree) (b : Bool) (m n : ℕ) → n ≡ cond b 1 0 + m → (b ≡ true → IsGeometry f) → (b ≡ false → ¬ IsGeometry f)
    → IsCount IsGeometry fs m → IsCount IsGeometry (f ∷ fs) n
count_next f fs true m n is holds fails h = inl (holds refl, (m, is, h))
count_next f fs false m n is holds fails h = inr (fails refl, subst (IsCount IsGeometry fs) (sym (is ∙ omega arith)) h)

pub counted : (fs : List FieldTree) (cs : List Column) → IsReport fs cs → IsCount IsGeometry fs (count_by is_geometry cs)
counted [] [] h = refl
counted [] (c ∷ cs) h = absurd h
counted (f ∷ fs) [] h = absurd h
counted (f ∷ fs) (c ∷ cs) h =
    count_next f fs (is_geometry c) (count_by is_geometry cs) _ (sum_by-cons (λ d. cond (is_geometry d) 1 0) c cs) (yes_geometry f c h.0) (no_geometry f c h.0) (counted fs cs h.1)

-- one field more, listed
list_next : (f : FieldTree) (fs : List FieldTree) (b : Bool) (n : ℕ) (is : List ℕ) → (b ≡ true → IsFaulty f) → (b ≡ false → ¬ IsFaulty f)
    → ArePlaces IsFaulty (n + 1) fs is → ArePlaces IsFaulty n (f ∷ fs) (cond b (n ∷ is) is)
list_next f fs true n is holds fails h = inl (holds refl, (is, refl, h))
list_next f fs false n is holds fails h = inr (fails refl, h)

listed_from : (n : ℕ) (fs : List FieldTree) (cs : List Column) → IsReport fs cs → ArePlaces IsFaulty n fs (places_of n cs)
listed_from n [] [] h = refl
listed_from n [] (c ∷ cs) h = absurd h
listed_from n (f ∷ fs) [] h = absurd h
listed_from n (f ∷ fs) (c ∷ cs) h = list_next f fs (is_faulty c) n (places_of (n + 1) cs) (yes_faulty f c h.0) (no_faulty f c h.0) (listed_from (n + 1) fs cs h.1)

pub listed : (fs : List FieldTree) (cs : List Column) → IsReport fs cs → ArePlaces IsFaulty 0 fs (places_of 0 cs)
listed fs cs h = listed_from 0 fs cs h

more_of : (b : Bool) (n : ℕ) (now was tail : List ℕ) → now ≡ was ++ tail → cond b (n ∷ now) now ≡ cond b (n ∷ was) was ++ tail
more_of true n now was tail h = ap (λ x. n ∷ x) h
more_of false n now was tail h = h

-- the place of a column at the end
places_more : (n : ℕ) (cs : List Column) (c : Column) → places_of n (cs ++ c ∷ []) ≡ places_of n cs ++ cond (is_faulty c) ((n + length cs) ∷ []) []
places_more n [] c = ap (λ i. cond (is_faulty c) (i ∷ []) []) (omega arith)
places_more n (d ∷ cs) c = more_of (is_faulty d) n (places_of (n + 1) (cs ++ c ∷ [])) (places_of (n + 1) cs) _
    (places_more (n + 1) cs c ∙ ap (λ i. places_of (n + 1) cs ++ cond (is_faulty c) (i ∷ []) []) (omega arith))

-- one column more
places_step : (cs : List Column) (i : ℕ) (c : Column) (before after : List ℕ) → i < length cs → before ≡ places_of 0 (take i cs)
    → after ≡ before ++ cond (is_faulty (get_or cs i c)) (i ∷ []) [] → after ≡ places_of 0 (take (i + 1) cs)
places_step cs i c before after inside was now =
    let here = get_or cs i c in
    let size : length (take i cs) ≡ i = length-take-le i cs (omega arith) in
    let more = ap (places_of 0) (take_more cs i c inside) ∙ places_more 0 (take i cs) here in
    now ∙ ap (λ x. x ++ cond (is_faulty here) (i ∷ []) []) was ∙ ap (λ j. places_of 0 (take i cs) ++ cond (is_faulty here) (j ∷ []) []) (omega (arith, size)) ∙ sym more

-- where it is faulty
pub places_with : (cs : List Column) (i : ℕ) (c : Column) (fault : ColumnFault) (before after : List ℕ) → i < length cs → get_or cs i c ≡ Faulty fault
    → before ≡ places_of 0 (take i cs) → after ≡ before ++ i ∷ [] → after ≡ places_of 0 (take (i + 1) cs)
places_with cs i c fault before after inside here was now =
    places_step cs i c before after inside was (subst (λ d. after ≡ before ++ cond (is_faulty d) (i ∷ []) []) (sym here) now)

is_other : (c : Column) → ((fault : ColumnFault) → c ≡ Faulty fault → ⊥) → is_faulty c ≡ false
is_other (Geometry g) other = refl
is_other (Inferred g) other = refl
is_other Other other = refl
is_other (Faulty fault) other = absurd (other fault refl)

-- and where it is not
pub places_without : (cs : List Column) (i : ℕ) (c : Column) (before after : List ℕ) → i < length cs → ((fault : ColumnFault) → get_or cs i c ≡ Faulty fault → ⊥)
    → before ≡ places_of 0 (take i cs) → after ≡ before → after ≡ places_of 0 (take (i + 1) cs)
places_without cs i c before after inside other was now =
    places_step cs i c before after inside was (now ∙ sym (append-nil before) ∙ ap (λ b. before ++ cond b (i ∷ []) []) (sym (is_other (get_or cs i c) other)))
