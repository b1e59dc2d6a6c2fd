-- The columns by GeoParquet metadata, one after another.
use Rattle.std.proofs.Common.{◌≡◌, ℕ, ◌+◌, ◌<◌, Bool, true, false, cond, ◌||◌, is_some, List, [], ◌∷◌, ◌++◌, Option, None, Some, Global, codes, bytes_eq, refl, sym, ap, ◌∙◌, subst, append_assoc, drop, get_or, length, if◌then◌else◌, map, IfSome, option_map, option_and_then}
use Rattle.std.specs.Borrow.{Bor}
use Rattle.std.specs.BTreeMap.{BTreeMap, get_by, UpdatesBy}
use Rattle.std.specs.Cmp.Lexicographic.{slice_cmp}
use Rattle.std.specs.Ordering.{nat_cmp}
use Rattle.std.proofs.lemmas.List.{append-nil, at_drop_more, map-append}
use Rattle.std.proofs.lemmas.Map.Text.{btree_map_updates_str}
use Rattle.json.specs.Json.{Json, null}
use Rattle.json.specs.Find as find
use Rattle.json.specs.Value.{members_view, value_view}
use Rattle.json.specs.declared.value.Value.{Value}
use Rattle.arrow_values.specs.Tree.{Text}
use Rattle.arrow_columns.specs.Column.{column_tree}
use Rattle.arrow_columns.specs.Types.{ColumnTree}
use Rattle.arrow_columns.specs.Names.{first_of}
use Rattle.arrow_columns.specs.declared.column.SchemaColumn.{SchemaColumn}
use Rattle.geoparquet.specs.Extensions.{IsRead, named_in}
use Rattle.geoparquet.specs.GeoColumns.{AreGeoColumns, IsGeoColumn, left_for, value_in}
use Rattle.geoparquet.specs.Sources.{Element, with_elements}
use Rattle.geoparquet.specs.Versions.{version_of}
use Rattle.geoparquet.proofs.KeptMembers.{member_is_read}

-- ---- one more column

-- the columns, without what their elements say
names_of : (cs : List ColumnTree) (es : List Element) → map (λ x. x.0) (with_elements cs es) ≡ cs
names_of [] es = refl
names_of (c ∷ cs) [] = ap (λ xs. c ∷ xs) (names_of cs [])
names_of (c ∷ cs) (e ∷ es) = ap (λ xs. c ∷ xs) (names_of cs es)

one_behind : (j : Json) (before : List ColumnTree) (xs : List (ColumnTree × Option Element)) (ds : List ColumnTree) (x : ColumnTree × Option Element) (d : ColumnTree)
    → AreGeoColumns j before xs ds → IsGeoColumn (version_of j) (left_for j (before ++ map (λ y. y.0) xs) x.0.name) x.0 x.1 d → AreGeoColumns j before (xs ++ x ∷ []) (ds ++ d ∷ [])
one_behind j before [] [] x d are is = (subst (λ b. IsGeoColumn (version_of j) (left_for j b x.0.name) x.0 x.1 d) (append-nil before) is, tt)
one_behind j before (y ∷ xs) (e ∷ ds) x d are is = (
  are.0,
  one_behind j (before ++ y.0 ∷ []) xs ds x d are.1
      (subst (λ b. IsGeoColumn (version_of j) (left_for j b x.0.name) x.0 x.1 d) (sym (append_assoc before (y.0 ∷ []) (map (λ z. z.0) xs))) is),
)
one_behind j before [] (e ∷ ds) x d are is = absurd are
one_behind j before (y ∷ xs) [] x d are is = absurd are

-- the columns so far with what their elements say, and what the elements of the others say
abbrev pub IsSplit : List Element → List ColumnTree → List Element → Type 0
IsSplit es cs said = (more : List ColumnTree) → with_elements (cs ++ more) es ≡ with_elements cs es ++ with_elements more said

module _ (es said others : List Element) (cs : List ColumnTree) (c : ColumnTree) (e : Option Element)
    (next : (more : List ColumnTree) → with_elements (c ∷ more) said ≡ (c, e) ∷ with_elements more others) (split : IsSplit es cs said) where
  last : with_elements (cs ++ c ∷ []) es ≡ with_elements cs es ++ (c, e) ∷ []
  last = split (c ∷ []) ∙ ap (λ xs. with_elements cs es ++ xs) (next [])

  pub split_behind : IsSplit es (cs ++ c ∷ []) others
  split_behind more =
      ap (λ ys. with_elements ys es) (append_assoc cs (c ∷ []) more) ∙ split (c ∷ more) ∙ ap (λ xs. with_elements cs es ++ xs) (next more)
      ∙ sym (append_assoc (with_elements cs es) ((c, e) ∷ []) (with_elements more others)) ∙ ap (λ xs. xs ++ with_elements more others) (sym last)

  pub one_pushed : (j : Json) (ds : List ColumnTree) (d : ColumnTree) → AreGeoColumns j [] (with_elements cs es) ds → IsGeoColumn (version_of j) (left_for j cs c.name) c e d
      → AreGeoColumns j [] (with_elements (cs ++ c ∷ []) es) (ds ++ d ∷ [])
  one_pushed j ds d are is =
      subst (λ xs. AreGeoColumns j [] xs (ds ++ d ∷ [])) (sym last)
      (one_behind j [] (with_elements cs es) ds (c, e) d are (subst (λ b. IsGeoColumn (version_of j) (left_for j b c.name) c e d) (sym (names_of cs es)) is))

-- ---- columns without metadata

none_left : (before : List ColumnTree) (name : Text) → left_for null before name ≡ None
none_left before name = of_seen (is_some (first_of before name))
  where
    of_seen : (b : Bool) → (if b then None else named_in null name) ≡ None
    of_seen true = refl
    of_seen false = refl

all_stay_behind : (before cs : List ColumnTree) (es : List Element) → AreGeoColumns null before (with_elements cs es) cs
all_stay_behind before [] es = tt
all_stay_behind before (c ∷ cs) [] = (
  subst (λ m. IsGeoColumn (version_of null) m c None c) (sym (none_left before c.name)) refl,
  all_stay_behind (before ++ c ∷ []) cs [],
)
all_stay_behind before (c ∷ cs) (e ∷ es) = (
  subst (λ m. IsGeoColumn (version_of null) m c (Some e) c) (sym (none_left before c.name)) refl,
  all_stay_behind (before ++ c ∷ []) cs es,
)

-- what is no JSON changes nothing
pub all_stay : (cs : List ColumnTree) (es : List Element) → AreGeoColumns null [] (with_elements cs es) cs
all_stay cs es = all_stay_behind [] cs es

-- ---- what is left behind a column

seen_step : (b : Bool) (x : ColumnTree) (later now : Option ColumnTree) (c : Bool) → is_some later ≡ is_some now || c → is_some (if b then Some x else later) ≡ is_some (if b then Some x else now) || c
seen_step true x later now c h = refl
seen_step false x later now c h = h

seen_last : (b : Bool) (c : ColumnTree) → is_some (if b then Some c else None) ≡ b
seen_last true c = refl
seen_last false c = refl

seen_behind : (name : Text) (before : List ColumnTree) (c : ColumnTree) → is_some (first_of (before ++ c ∷ []) name) ≡ is_some (first_of before name) || bytes_eq c.name name
seen_behind name [] c = seen_last (bytes_eq c.name name) c
seen_behind name (x ∷ before) c = seen_step (bytes_eq x.name name) x (first_of (before ++ c ∷ []) name) (first_of before name) (bytes_eq c.name name) (seen_behind name before c)

left_step : (seen taken : Bool) (o : Option (Bor (Value Global))) (m : Option Json) → option_map (λ v. value_view v.now) o ≡ (if seen then None else m)
    → option_map (λ v. value_view v.now) (cond taken None o) ≡ (if seen || taken then None else m)
left_step true true o m e = refl
left_step true false o m e = e
left_step false true o m e = refl
left_step false false o m e = e

pub tree_left_behind : (j : Json) (before : List ColumnTree) (c : ColumnTree) (old new : BTreeMap (Bor Text) (Bor (Value Global)))
    → UpdatesBy (λ x y. slice_cmp nat_cmp x.now y.now) (λ k. slice_cmp nat_cmp c.name k.now) old new None
    → ((name : Text) → value_in old name ≡ left_for j before name) → (name : Text) → value_in new name ≡ left_for j (before ++ c ∷ []) name
tree_left_behind j before c old new taken left name =
    ap (option_map (λ v. value_view v.now)) (btree_map_updates_str c.name old new None taken name)
    ∙ left_step (is_some (first_of before name)) (bytes_eq c.name name) (get_by (λ k. slice_cmp nat_cmp name k.now) old) (named_in j name) (left name)
    ∙ ap (λ b. if b then None else named_in j name) (sym (seen_behind name before c))

pub left_behind : (j : Json) (before : List SchemaColumn) (c : SchemaColumn) (old new : BTreeMap (Bor Text) (Bor (Value Global)))
    → UpdatesBy (λ x y. slice_cmp nat_cmp x.now y.now) (λ k. slice_cmp nat_cmp (column_tree c).name k.now) old new None
    → ((name : Text) → value_in old name ≡ left_for j (map column_tree before) name) → (name : Text) → value_in new name ≡ left_for j (map column_tree (before ++ c ∷ [])) name
left_behind j before c old new taken left name =
    tree_left_behind j (map column_tree before) (column_tree c) old new taken left name
    ∙ ap (λ cs. left_for j cs name) (sym (map-append column_tree before (c ∷ [])))

-- what is left was read
pub left_is_read : (j : Json) (before : List ColumnTree) (name : Text) (o : Option (Bor (Value Global))) → IsRead j → option_map (λ v. value_view v.now) o ≡ left_for j before name
    → IfSome o (λ v. IsRead (value_view v.now))
left_is_read j before name o h e = of_seen o (is_some (first_of before name)) (find.get (codes "columns") j) refl e
  where
    of_found : (o : Option (Bor (Value Global))) (f : Option Json) → find.get (codes "columns") j ≡ f → option_map (λ v. value_view v.now) o ≡ option_and_then (find.get name) f → IfSome o (λ v. IsRead (value_view v.now))
    of_found None f found e = tt
    of_found (Some v) None found e = absurd (cc)
    of_found (Some v) (Some m) found e = member_is_read name m (value_view v.now) (member_is_read (codes "columns") j m h found) (sym e)

    of_seen : (o : Option (Bor (Value Global))) (seen : Bool) (f : Option Json) → find.get (codes "columns") j ≡ f → option_map (λ v. value_view v.now) o ≡ (if seen then None else option_and_then (find.get name) f) → IfSome o (λ v. IsRead (value_view v.now))
    of_seen None seen f found e = tt
    of_seen (Some v) true f found e = absurd (cc)
    of_seen (Some v) false f found e = of_found (Some v) f found e

-- ---- members by their names

later_step : (o : Option Json) (b : Bool) (v : Bor (Value Global)) (old : Option (Bor (Value Global)))
    → find.later_or o (option_map (λ w. value_view w.now) (cond b (Some v) old)) ≡ find.later_or (find.later_or o (cond b (Some (value_view v.now)) None)) (option_map (λ w. value_view w.now) old)
later_step (Some j) b v old = refl
later_step None true v old = refl
later_step None false v old = refl

pub one_later : (members : List (Bor Text × Value Global)) (i : ℕ) (m : Bor Text × Value Global) (v : Bor (Value Global)) (old new : BTreeMap (Bor Text) (Bor (Value Global))) → i < length members
    → m ≡ get_or members i m → v.now ≡ m.1 → UpdatesBy (λ x y. slice_cmp nat_cmp x.now y.now) (λ k. slice_cmp nat_cmp m.0.now k.now) old new (Some v) → (name : Text)
    → find.later_or (find.get_member name (members_view (drop i members))) (value_in old name) ≡ find.get_member name (members_view members)
    → find.later_or (find.get_member name (members_view (drop (i + 1) members))) (value_in new name) ≡ find.get_member name (members_view members)
one_later members i m v old new lt is same put name so_far =
    let later = λ (ms : List (Bor Text × Value Global)). find.get_member name (members_view ms) in
    let here = at_drop_more later members i m lt ∙ ap (λ x. later (x ∷ drop (i + 1) members)) (sym is) in
    let value = ap (λ w. find.later_or (later (drop (i + 1) members)) (cond (bytes_eq m.0.now name) (Some (value_view w)) None)) same in
    ap (λ o. find.later_or (later (drop (i + 1) members)) (option_map (λ w. value_view w.now) o)) (btree_map_updates_str m.0.now old new (Some v) put name)
    ∙ later_step (later (drop (i + 1) members)) (bytes_eq m.0.now name) v (get_by (λ k. slice_cmp nat_cmp name k.now) old)
    ∙ ap (λ o. find.later_or o (value_in old name)) (value ∙ sym here) ∙ so_far
