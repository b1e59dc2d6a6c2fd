-- The kind of a name and a tree: there is one at most, and it is what a reader's answer says; the names of a tree: two at most, and which two.
use Rattle.geoarrow_layout.proofs.Terms.{◌≡◌, ◌≢◌, ◌⊎◌, inl, inr, IfOk, result_ok, Bool, true≢false, IsTrue, is_ok, refl, sym, ap, subst, ◌∙◌, ◌↔◌, IfErr, Option, Some, Result, Ok, Err, same_Some, Text, Tree, Point, LineString, Polygon, MultiPolygon, GeometryCollection, Plain, Kind, OfNative, OfGeometry, OfRect, OfWkb, OfWkt, ExtensionName, name_text, extension_of, Native, Accepted, Accepts, IsStructured, YieldsOne, any_native_same, geometry_same, box_shape_same, LayoutFault, Summary, Summarizes, IsAccepted, Path, HasFault, FaultAt, Tells, YieldsKind, NativeKind, CoordType, Dimension, Mixed, Geometry, BoxShape, NativeFault, MixedFault, GeometryFault, BoxFault, TellsBoth, Yields, coords_in, native_first, mixed_first, ◌≤◌, ℕ, zero, suc, arith, PlainType, binary, large_binary, binary_view, utf8, large_utf8, utf8_view, plain, list, large_list, fixed_size_list, struct, union, Separated, XY, ListWidth, Lists, LargeLists, size_of, names_of, ListsOver, levels_of, Leaf, NoName, Holds, IsStructOfFour, Share, dimension_sized, false, first_of, second_kind, second_of, name_of}
use Rattle.geoarrow_layout.specs.declared.names.ExtensionName.TheVariants as names
use Rattle.geoarrow_layout.proofs.FaultLaws.{accepted_apart, native_sole, mixed_none, geometry_apart, box_apart, lengths}
use Rattle.geoarrow_layout.proofs.Readings.{Answer, exactly, exactly_one, told_fault}

-- two names of one text are one
pub one_name : (a b : ExtensionName) → name_text a ≡ name_text b → a ≡ b
one_name (names.Native Point) (names.Native Point) h = refl
one_name _ _ h = grind arith

pub same_kind : (t : Tree) (k l : Kind) → extension_of k ≡ extension_of l → Accepted k t → Accepted l t → k ≡ l
same_kind t (OfNative k c d) (OfNative l b e) same h g =
    let kinds : k ≡ l = cc in
    let pair = any_native_same l t c b d e (subst (λ x. Native t x c d) kinds h) g in cc
same_kind t (OfGeometry c) (OfGeometry b) same h g = ap (λ x. OfGeometry x) (geometry_same t c b h g)
same_kind t (OfRect d) (OfRect e) same h g = ap (λ x. OfRect x) (box_shape_same t d e h g)
same_kind t (OfWkb Plain) (OfWkb Plain) same h g = refl
same_kind t (OfWkb w) (OfWkb Plain) same h g = cc
same_kind t (OfWkt Plain) (OfWkt Plain) same h g = refl
same_kind t (OfWkt w) (OfWkt Plain) same h g = cc
same_kind t k l same h g = cc

pub one_kind : (name : Text) (t : Tree) (k l : Kind) → Accepts name t k → Accepts name t l → k ≡ l
one_kind name t k l h g = same_kind t k l (one_name (extension_of k) (extension_of l) (sym h.0 ∙ g.0)) h.1 g.1

-- what is accepted has no fault
pub no_fault_if_accepted : (n : ExtensionName) (t : Tree) (k : Kind) (p : Path) (f : LayoutFault) → Accepts (name_text n) t k → FaultAt n t p f → ⊥
no_fault_if_accepted n t k p f h e = accepted_apart k t p f h.1 (subst (λ m. FaultAt m t p f) (one_name n (extension_of k) h.0) e)

-- ---- answers

-- the kind of a column, told by the reader of its extension name
pub kind_exact : (n : ExtensionName) (t : Tree) (r : Result Kind LayoutFault) → Tells r (Accepts (name_text n) t) (FaultAt n t) → YieldsOne r (Accepts (name_text n) t)
kind_exact n t r h = exactly_one r (Accepts (name_text n) t) (FaultAt n t) (one_kind (name_text n) t) (no_fault_if_accepted n t) h

-- the same, told by the reader of a data type
pub native_exact : (k : NativeKind) (t : Tree) (r : Answer) → TellsBoth r (Native t k) (NativeFault k t) → Yields r (Native t k)
native_exact k t r = exactly (coords_in t) r (Native t k) (NativeFault k t) (native_first k t) ((native_sole k).1 t)

pub mixed_exact : (t : Tree) (r : Answer) → TellsBoth r (Mixed t) (MixedFault t) → Yields r (Mixed t)
mixed_exact t r = exactly (coords_in t) r (Mixed t) (MixedFault t) (mixed_first t) (mixed_none t)

pub geometry_exact : (t : Tree) (r : Result CoordType LayoutFault) → Tells r (Geometry t) (GeometryFault t) → YieldsOne r (Geometry t)
geometry_exact t r = exactly_one r (Geometry t) (GeometryFault t) (geometry_same t) (geometry_apart t)

pub geometry_told : (t : Tree) (r : Result CoordType LayoutFault) → Tells r (Geometry t) (GeometryFault t) → IfErr r (HasFault (GeometryFault t))
geometry_told t r = told_fault r (Geometry t) (GeometryFault t)

pub box_told : (t : Tree) (r : Result Dimension LayoutFault) → Tells r (BoxShape t) (BoxFault t) → IfErr r (HasFault (BoxFault t))
box_told t r = told_fault r (BoxShape t) (BoxFault t)

pub box_exact : (t : Tree) (r : Result Dimension LayoutFault) → Tells r (BoxShape t) (BoxFault t) → YieldsOne r (BoxShape t)
box_exact t r = exactly_one r (BoxShape t) (BoxFault t) (box_shape_same t) (box_apart t)

-- well-known binary and text have no structure
not_plain : (n : ExtensionName) (k : Kind) → IsStructured k → extension_of k ≡ n → (n ≢ names.Wkb) × (n ≢ names.Wkt)
not_plain n (OfWkb w) s e = absurd s
not_plain n (OfWkt w) s e = absurd s
not_plain n k s e = (λ f. cc, λ f. cc)

-- the kind that a summary says, if it is one
pub kind_answer : (x : Text) (n : ExtensionName) (t : Tree) (r : Result Kind LayoutFault) → x ≡ name_text n → IfOk r (λ k. (extension_of k ≡ n) × IsStructured k)
    → ((n ≢ names.Wkb) × (n ≢ names.Wkt) → Tells r (Accepts (name_text n) t) (FaultAt n t)) → YieldsKind x t (result_ok r)
kind_answer x n t (Ok k) is of told = let h = told (not_plain n k of.1 of.0) in
    let here : Accepts x t k = (is ∙ h.0, h.1) in
    λ l. (λ e. subst (λ y. Accepts x t y × IsStructured y) (same_Some k l e) (here, of.1), λ g. ap (λ y. Some y) (one_kind x t k l here g.0))
kind_answer x n t (Err f) is of told = λ l. (
  λ e. cc,
  λ h.
      let same : n ≡ extension_of l = one_name n (extension_of l) (sym is ∙ h.0.0) in
      let fault = told (not_plain n l h.1 (sym same)) in
      absurd (no_fault_if_accepted n t l fault.0 f (sym is ∙ h.0.0, h.0.1) fault.1),
)

-- whether there is a kind
pub accepted_ok : (n : Text) (t : Tree) (r : Result Kind LayoutFault) (b : Bool) → b ≡ is_ok r → YieldsOne r (Accepts n t) → IsTrue b ↔ IsAccepted n t
accepted_ok n t (Ok k) b is a = (λ e. (k, (a k).0 refl), λ x. is)
accepted_ok n t (Err f) b is a = (λ e. absurd (true≢false (sym e ∙ is)), λ x. let bad = (a x.0).1 x.1 in cc)

-- there is a kind, or a fault
pub either : (r : Result Kind LayoutFault) (n : ExtensionName) (t : Tree) → YieldsOne r (Accepts (name_text n) t) → IfErr r (HasFault (FaultAt n t)) → IsAccepted (name_text n) t ⊎ ((p : Path) × (f : LayoutFault) × FaultAt n t p f)
either (Ok k) n t a h = inl (k, (a k).0 refl)
either (Err f) n t a h = inr (h.0, f, h.1)

-- what a summary says under the name of a kind, it says of all its trees
abbrev pub Told : Summary → Kind → Type 0
Told s k = (r : Option Kind) × ((t : Tree) → Summarizes s t → YieldsKind (name_of k) t r)

pub moves : (s : Summary) (k : Kind) → Told s k → IsStructured k → (t u : Tree) → Summarizes s t → Summarizes s u → (name : Text) → Accepts name t k → Accepts name u k
moves s k told x t u h g name a = (a.0, ((told.1 u g k).0 ((told.1 t h k).1 ((refl, a.1), x))).0.1)

-- ---- the extension names of a data type: two at most, and which two

-- the first of the names of a data type with such a structure, if it has any
abbrev pub plain_name : PlainType → ExtensionName
plain_name binary = names.Wkb
plain_name large_binary = names.Wkb
plain_name binary_view = names.Wkb
plain_name utf8 = names.Wkt
plain_name large_utf8 = names.Wkt
plain_name utf8_view = names.Wkt
plain_name _ = names.Rect

abbrev list_name : ExtensionName → ExtensionName
list_name (names.Native Point) = names.Native LineString
list_name (names.Native LineString) = names.Native Polygon
list_name (names.Native Polygon) = names.Native MultiPolygon
list_name names.Geometry = names.Native GeometryCollection
list_name _ = names.Rect

abbrev first_in : Tree → ExtensionName
first_in (plain p) = plain_name p
first_in (list n t b m) = list_name (first_in t)
first_in (large_list n t b m) = list_name (first_in t)
first_in (union ms mode) = names.Geometry
first_in _ = names.Native Point

first_or_second : (a : ExtensionName) → (a ≡ first_of a) ⊎ (a ≡ second_of (first_of a))
first_or_second (names.Native Point) = inl refl
first_or_second _ = search (inl, inr, refl)

abbrev list_names : ℕ → ExtensionName → ExtensionName
list_names zero a = a
list_names (suc n) a = list_name (list_names n a)

below : (w : ListWidth) (n : ℕ) (t u : Tree) → ListsOver w n t u → first_in t ≡ list_names n (first_in u)
below w zero t u h = ap first_in h
below Lists (suc n) (list nm t x a) u h = ap list_name (below Lists n t u h)
below LargeLists (suc n) (large_list nm t x a) u h = ap list_name (below LargeLists n t u h)
below _ (suc n) _ u h = absurd h

leaf_in : (t : Tree) (c : CoordType) (d : Dimension) → Leaf t c d → first_in t ≡ names.Native Point
leaf_in (fixed_size_list n t b m z) c d h = refl
leaf_in (struct fs) c d h = refl
leaf_in _ c d h = absurd h

first_accepted : (k : Kind) (t : Tree) → Accepted k t → first_in t ≡ first_of (extension_of k)
first_accepted (OfNative GeometryCollection c d) t (union ms mode, lists, h) = below lists.0 1 t (union ms mode) lists.1
first_accepted (OfNative GeometryCollection c d) t (_, lists, h) = absurd h
first_accepted (OfNative Point c d) t h = below h.1.0 0 t h.0 h.1.1 ∙ leaf_in h.0 c d h.2
first_accepted (OfNative k c d) t h = below h.1.0 (levels_of k) t h.0 h.1.1 ∙ ap (list_names (levels_of k)) (leaf_in h.0 c d h.2)
first_accepted (OfGeometry c) (union ms mode) h = refl
first_accepted (OfGeometry c) _ h = absurd h
first_accepted (OfRect d) (struct fs) h = refl
first_accepted (OfRect d) _ h = absurd h
first_accepted (OfWkb Plain) t h = ap first_in h
first_accepted (OfWkt Plain) t h = ap first_in h
first_accepted _ t h = ap first_in h

-- the name is the first or the second
abbrev NamedAt : ExtensionName → Text → Type 0
NamedAt a n = (n ≡ name_text a) ⊎ (n ≡ name_text (second_of a))

name_at : (n : Text) (t : Tree) → IsAccepted n t → NamedAt (first_in t) n
name_at n t a =
    subst (λ s. NamedAt s n) (sym (first_accepted a.0 t a.1.1))
    (elim (first_or_second (extension_of a.0)) [ inl e ↦ inl (a.1.0 ∙ ap name_text e) | inr e ↦ inr (a.1.0 ∙ ap name_text e) ])

moved : (m n : Text) (t : Tree) → n ≡ m → IsAccepted m t → IsAccepted n t
moved m n t e h = subst (λ x. IsAccepted x t) (sym e) h

-- the names of the data type are those with H
abbrev Names : (Text → Type 0) → Tree → Type 0
Names H t = (n : Text) → H n ↔ IsAccepted n t

are_names : (H : Text → Type 0) (a : ExtensionName) (t : Tree) → IsAccepted (name_text a) t → ((n : Text) → H n → IsAccepted n t) → ((n : Text) → NamedAt (first_of a) n → IsAccepted n t → H n) → Names H t
are_names H a t h to from n =
    let first : first_in t ≡ first_of a = first_accepted h.0 t h.1.1 ∙ ap first_of (sym (one_name a (extension_of h.0) h.1.0)) in
    (to n, λ g. from n (subst (λ s. NamedAt s n) first (name_at n t g)) g)

pub alone : (a : ExtensionName) (t : Tree) → first_of a ≡ a → second_of a ≡ a → IsAccepted (name_text a) t → Names (λ n. n ≡ name_text a) t
alone a t first second h =
    are_names (λ n. n ≡ name_text a) a t h (λ n e. moved (name_text a) n t e h)
    (λ n x g. elim (subst (λ s. NamedAt s n) first x) [ inl e ↦ e | inr e ↦ e ∙ ap name_text second ])

pub both : (a : ExtensionName) (t : Tree) → first_of a ≡ a → IsAccepted (name_text a) t → IsAccepted (name_text (second_of a)) t → Names (NamedAt a) t
both a t first h k =
    are_names (NamedAt a) a t h (λ n x. elim x [ inl e ↦ moved (name_text a) n t e h | inr e ↦ moved (name_text (second_of a)) n t e k ]) (λ n x g. subst (λ s. NamedAt s n) first x)

pub without : (a b : ExtensionName) (t : Tree) → ((n : Text) → NamedAt (first_of a) n → (n ≡ name_text a) ⊎ (n ≡ name_text b)) → IsAccepted (name_text a) t → ¬ IsAccepted (name_text b) t → Names (λ n. n ≡ name_text a) t
without a b t is h other = are_names _ a t h (λ n e. moved _ n t e h) (λ n x g. elim (is n x) [ inl e ↦ e | inr e ↦ absurd (other (moved n _ t (sym e) g)) ])

-- ---- two names of one data type

pub two_at_most : (t : Tree) (a b c : Text) → IsAccepted a t → IsAccepted b t → IsAccepted c t → (a ≡ b) ⊎ ((a ≡ c) ⊎ (b ≡ c))
two_at_most t a b c h k l = let x = name_at a t h in let y = name_at b t k in let z = name_at c t l in grind arith

-- the kind under a name
native_accepted : (k : NativeKind) (t : Tree) → IsAccepted (name_text (names.Native k)) t → (c : CoordType) × (d : Dimension) × Native t k c d
native_accepted k t (OfNative m c d, (is, h)) = let e = one_name (names.Native k) (names.Native m) is in let same : k ≡ m = cc in (c, d, subst (λ x. Native t x c d) (sym same) h)
native_accepted k t (l, (is, h)) = let e = one_name (names.Native k) (extension_of l) is in cc

size_within : (d : Dimension) → (2 ≤ size_of d) × (size_of d ≤ 4)
size_within XY = (omega arith, omega arith)
size_within d = (omega arith, omega arith)

-- what is a coordinate and a box is a struct of four fields
four_of : (t : Tree) (c : CoordType) (d e : Dimension) → Leaf t c d → BoxShape t e → IsStructOfFour t
four_of (struct fs) Separated d e h k = let less = size_within d in let more = size_within e in let s = (lengths (names_of fs) d).0 h in let b = (lengths (names_of fs) e).1 k in omega (arith, less.0, less.1, more.0, more.1)
four_of _ _ d e h k = search

point_and_box_four : (t : Tree) → IsAccepted (name_text (names.Native Point)) t → IsAccepted (name_text names.Rect) t → IsStructOfFour t
point_and_box_four t h (OfRect e, (is, k)) = let p = native_accepted Point t h in four_of t p.0 p.1 e (subst (λ x. Leaf x p.0 p.1) (sym p.2.1.1) p.2.2) k
point_and_box_four t h (l, (is, k)) = let e = one_name names.Rect (extension_of l) is in cc

-- the two names of one data type, if they are two
share : (s : ExtensionName) (t : Tree) (a b : Text) → a ≡ name_text s → b ≡ name_text (second_of s) → IsAccepted a t → IsAccepted b t → (a ≡ b → ⊥) → Share t a b
share (names.Native Point) t a b h k x y differ = inr (inr (h, k, point_and_box_four t (moved a _ t (sym h) x) (moved b _ t (sym k) y)))
share (names.Native LineString) t a b h k x y differ = inl (h, k)
share (names.Native Polygon) t a b h k x y differ = inr (inl (h, k))
share _ t a b h k x y differ = absurd (differ (h ∙ sym k))

pub which_two : (t : Tree) (a b : Text) → IsAccepted a t → IsAccepted b t → (a ≡ b → ⊥) → Share t a b ⊎ Share t b a
which_two t a b x y differ = by (name_at a t x) (name_at b t y)
  where
    by : NamedAt (first_in t) a → NamedAt (first_in t) b → Share t a b ⊎ Share t b a
    by (inl h) (inr k) = inl (share (first_in t) t a b h k x y differ)
    by (inr h) (inl k) = inr (share (first_in t) t b a k h y x (λ e. differ (sym e)))
    by (inl h) (inl k) = absurd (differ (h ∙ sym k))
    by (inr h) (inr k) = absurd (differ (h ∙ sym k))

pub as_other : (j k : NativeKind) (t : Tree) → ((c : CoordType) (d : Dimension) → Native t j c d → Native t k c d) → IsAccepted (name_text (names.Native j)) t → IsAccepted (name_text (names.Native k)) t
as_other j k t f h = let x = native_accepted j t h in (OfNative k x.0 x.1, (refl, f x.0 x.1 x.2))

of_four : (t : Tree) → IsStructOfFour t → IsAccepted (name_text (names.Native Point)) t × IsAccepted (name_text names.Rect) t
of_four (struct fs) h = ((OfNative Point Separated (dimension_sized 4 false), (refl, (struct fs, (Lists, refl), h))), (OfRect XY, (refl, h)))
of_four _ h = absurd h

pub both_accepted : (t : Tree) (a b : Text) → Share t a b → IsAccepted a t ↔ IsAccepted b t
both_accepted t a b (inl h) = rw (h.0, h.1) (as_other LineString (second_kind LineString) t (λ c d x. x), as_other (second_kind LineString) LineString t (λ c d x. x))
both_accepted t a b (inr (inl h)) = rw (h.0, h.1) (as_other Polygon (second_kind Polygon) t (λ c d x. x), as_other (second_kind Polygon) Polygon t (λ c d x. x))
both_accepted t a b (inr (inr h)) = rw (h.0, h.1) (λ x. (of_four t h.2).1, λ x. (of_four t h.2).0)

-- ---- no name

abbrev No : Tree → ExtensionName → Type 0
No t a = ¬ IsAccepted (name_text a) t

pub no_names : (t : Tree) → No t (names.Native Point) → No t (names.Native LineString) → No t (names.Native Polygon) → No t (names.Native MultiPolygon) → No t (names.Native GeometryCollection) → No t names.Geometry → No t names.Rect → No t names.Wkb → No t names.Wkt → Names (Holds NoName) t
no_names t point line polygon multi collection geometry box wkb wkt n = (
  λ e. absurd e,
  λ a. none (λ h. line (as_other (second_kind LineString) LineString t (λ c d y. y) h)) (λ h. polygon (as_other (second_kind Polygon) Polygon t (λ c d y. y) h)) (extension_of a.0) (a.0, (refl, a.1.1)),
)
  where
    none : No t (names.Native (second_kind LineString)) → No t (names.Native (second_kind Polygon)) → (a : ExtensionName) → No t a
    none lines polygons (names.Native Point) = point
    none lines polygons _ = search
