-- What is written is read as what it was written for, so the data types that are written are pairwise distinct; the comparison with them; every kind is listed, and once.
use Rattle.geoarrow_layout.proofs.Terms.{filter, ◌≡◌, [], ◌∷◌, true, false, refl, sym, subst, member_trees, CoordType, Interleaved, Separated, Dimension, XY, XYZ, XYM, DIMENSIONS, KINDS, members_in, native_members, Lists, NativeKind, Point, GeometryCollection, Plain, Kind, OfNative, OfGeometry, OfRect, OfWkb, OfWkt, Leaf, levels_of, Member, AllMembers, GeometryMember, Native, Accepted, Under, leaf_layout, mixed_members, native_layout, geometry_members, layout, over_leaf_layout, mixed_layout, dimension_members, IsWritten, IsWrittenSome, cond, List, codes, ◌∙◌, ap, bytes_eq, Tree, plain, list, struct, union, ExtensionName, extension_of, names_of, ◌↔◌, Bool, IsTrue, FieldTree, Members, field_trees, UnionMode, field_list, member_list, listed_fields, listed_members, ◌<◌, ℕ, ◌+◌, ◌*◌, ◌-◌, length, get_or, lit<, arith, Contains, Large, View, order_of, place_of, ALL, offset_of, list_names, OverLeaf, members_over, take, AllByRecursion, get_or-map, get_or-range_with_len}
use Rattle.geoarrow_layout.specs.Shapes.{SameNames}
use Rattle.geoarrow_layout.proofs.Readings.{all_map, all_both}
use Rattle.geoarrow_layout.specs.declared.names.ExtensionName.TheVariants as names
use Rattle.geoarrow_layout.proofs.KindSteps.{same_kind, plain_name}

pub written_leaf : (c : CoordType) (d : Dimension) → Leaf (leaf_layout c d) c d
unfolding SameNames
written_leaf Interleaved d = (refl, refl)
written_leaf Separated XYZ = (refl, λ n. refl)
written_leaf Separated XYM = (refl, λ n. refl)
written_leaf Separated _ = refl

-- the members in a collection
written_under : (k : NativeKind) (c : CoordType) (d : Dimension) → Under Leaf (levels_of k) (over_leaf_layout k c d) c d
written_under Point c d = (leaf_layout c d, (Lists, refl), written_leaf c d)
written_under k c d = (leaf_layout c d, (Lists, refl), written_leaf c d)

written_mixed : (c : CoordType) (d : Dimension) → AllMembers (λ i t. Member i t c d) (member_trees (mixed_members c d))
written_mixed c d = each (take 6 KINDS) (λ e. cc, (λ e. cc, (λ e. cc, (λ e. cc, (λ e. cc, (λ e. cc, tt))))))
  where
    over : (k : NativeKind) → (k ≡ GeometryCollection → ⊥) → OverLeaf (over_leaf_layout k c d) k c d
    over GeometryCollection other = absurd (other refl)
    over k other = written_under k c d

    each : (ks : List NativeKind) → AllByRecursion (λ k. k ≡ GeometryCollection → ⊥) ks → AllMembers (λ i t. Member i t c d) (member_trees (members_over ks c d))
    each [] others = tt
    each (k ∷ ks) others = ((k, refl, over k others.0), each ks others.1)

-- what is written for the members
pub natives_written : (c : CoordType) (d : Dimension) (ks : List NativeKind) → AllMembers (IsWritten c d) (member_trees (native_members ks c d))
natives_written c d [] = tt
natives_written c d (k ∷ ks) = ((k, refl, refl), natives_written c d ks)

pub in_written : (c : CoordType) (ds : List Dimension) → AllMembers (IsWrittenSome c) (member_trees (members_in ds c))
in_written c [] = tt
in_written c (d ∷ ds) =
    let each = all_map (IsWritten c d) (IsWrittenSome c) (λ i t m. (d, m)) (member_trees (dimension_members c d)) (natives_written c d KINDS) in
    (all_both (IsWrittenSome c) (dimension_members c d) (members_in ds c)).1 (each, in_written c ds)

written_native : (k : NativeKind) (c : CoordType) (d : Dimension) → Native (native_layout k c d) k c d
written_native GeometryCollection c d = (mixed_layout c d, (Lists, refl), (tt, written_mixed c d))
written_native k c d = written_under k c d

pub written : (k : Kind) → Accepted k (layout k)
written (OfNative k c d) = written_native k c d
written (OfGeometry c) = (
  tt,
  all_map (IsWrittenSome c) (λ i t. (d : Dimension) × GeometryMember i t c d)
      (λ i t w. (w.0, (w.1.0, w.1.1, subst (λ u. Native u w.1.0 c w.0) (sym w.1.2) (written_native w.1.0 c w.0)))) (member_trees (geometry_members c)) (in_written c DIMENSIONS),
)
written (OfRect XYZ) = (refl, λ h. let bad : false ≡ true = h.0 in cc, (refl, refl))
written (OfRect XYM) = (refl, (refl, refl))
written (OfWkb Plain) = refl
written (OfWkt Plain) = refl
written _ = refl

-- what a written data type says of its extension name: the outermost list, by its item's name, of its kind
abbrev name_in : Tree → ExtensionName
name_in (plain p) = plain_name p
name_in (list n t b m) = names.Native (get_or (filter (λ k. bytes_eq n (get_or (list_names k) 0 [])) KINDS) 0 Point)
name_in (struct fs) = cond (bytes_eq (get_or (names_of fs) 0 []) (codes "xmin")) names.Rect (names.Native Point)
name_in (union ms mode) = names.Geometry
name_in _ = names.Native Point

name_back : (k : Kind) → name_in (layout k) ≡ extension_of k
name_back (OfNative Point Interleaved d) = refl
name_back (OfNative Point Separated XY) = refl
name_back (OfNative Point c d) = refl
name_back (OfRect XY) = refl
name_back (OfWkb Plain) = refl
name_back (OfWkt Plain) = refl
name_back _ = refl

pub layouts_are_distinct : (j k : Kind) → layout j ≡ layout k → j ≡ k
layouts_are_distinct j k same = same_kind (layout k) j k (sym (name_back j) ∙ ap name_in same ∙ name_back k) (subst (Accepted j) same (written j)) (written k)

-- ---- the comparison with the table of written data types

-- a struct of these fields, a union of these members
pub struct_same : (t : Tree) (xs ys : List FieldTree) (b : Bool) → t ≡ struct (field_trees xs) → IsTrue b ↔ (xs ≡ ys) → IsTrue b ↔ (t ≡ struct (field_trees ys))
struct_same t xs ys b is says = (
  (λ h. is ∙ ap (λ z. struct (field_trees z)) (says.0 h)),
  (λ e. let same : field_trees xs ≡ field_trees ys = cc in says.1 (sym (listed_fields xs) ∙ ap field_list same ∙ listed_fields ys)),
)

pub union_same : (t : Tree) (xs ys : Members) (m n : UnionMode) (b : Bool) → t ≡ union (member_trees xs) m → m ≡ n → IsTrue b ↔ (xs ≡ ys) → IsTrue b ↔ (t ≡ union (member_trees ys) n)
union_same t xs ys m n b is mode says = (
  (λ h. is ∙ ap (λ z. union (member_trees z) m) (says.0 h) ∙ ap (λ z. union (member_trees ys) z) mode),
  (λ e. let same : member_trees xs ≡ member_trees ys = cc in says.1 (sym (listed_members xs) ∙ ap member_list same ∙ listed_members ys)),
)

-- ---- every kind is listed, and once

-- where a kind stands
abbrev place_of_kind : Kind → ℕ
place_of_kind (OfNative k c d) = 8 * (offset_of k - 1) + (4 * place_of c + order_of d)
place_of_kind (OfGeometry c) = 56 + place_of c
place_of_kind (OfRect d) = 58 + order_of d
place_of_kind (OfWkb Plain) = 62
place_of_kind (OfWkb Large) = 63
place_of_kind (OfWkb View) = 64
place_of_kind (OfWkt Plain) = 65
place_of_kind (OfWkt Large) = 66
place_of_kind (OfWkt View) = 67

pub listed : (k : Kind) → Contains ALL k
listed (OfNative Point Interleaved XY) = (0, lit< tt, refl)
listed (OfNative k Separated XY) = (place_of_kind (OfNative k Separated XY), lit< tt, refl)
listed (OfNative k Interleaved XYZ) = (place_of_kind (OfNative k Interleaved XYZ), lit< tt, refl)
listed (OfGeometry Interleaved) = (56, lit< tt, refl)
listed (OfRect XY) = (58, lit< tt, refl)
listed (OfWkb Plain) = (62, lit< tt, refl)
listed (OfWkt Plain) = (65, lit< tt, refl)
listed k = (place_of_kind k, lit< tt, refl)

-- the kinds stand where they say
placed : (i : ℕ) (k : Kind) → i < length ALL → place_of_kind (get_or ALL i k) ≡ i
placed i k lt =
    let is : place_of_kind (get_or ALL i k) ≡ 0 + i = sym (get_or-map place_of_kind ALL i k) ∙ get_or-range_with_len 0 68 i (place_of_kind k) lt in
    omega arith

pub listed_once : (i j : ℕ) (k : Kind) → i < length ALL → j < length ALL → get_or ALL i k ≡ get_or ALL j k → i ≡ j
listed_once i j k small other same =
    sym (placed i k small) ∙ ap place_of_kind same ∙ placed j k other
