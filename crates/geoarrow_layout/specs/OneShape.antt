-- Laws of `Shapes`: a data type of a kind has one coordinate type and one dimension, those of its first coordinate.
use Rattle.std.specs.Prelude.{◌≡◌}
use Rattle.geoarrow_layout.specs.Words.{Text, Tree, plain, list, large_list, fixed_size_list, struct, union, MemberTrees, no_members, member, refl, sym, ap, ◌∙◌, arith, ℕ, zero, suc, ℤ, List, length, codes, CoordType, Interleaved, Separated, Dimension, XY, XYZ, XYM, NativeKind, GeometryCollection, ListWidth, Lists, LargeLists}
use Rattle.geoarrow_layout.specs.Kinds.{interleaved_name, dimension_sized, dimension_named, levels_of}
use Rattle.geoarrow_layout.specs.Shapes.{SameNames, has_name, names_of, IsSeparatedAs, Leaf, ListsOver, Under, OverLeaf, Member, Mixed, Native, GeometryMember, Geometry, IsBoxAs, BoxShape}

-- the dimension of a separated coordinate whose fields have these names
abbrev pub dimension_among : List Text → Dimension
dimension_among names = dimension_sized (length names) (has_name (codes "m") names)

abbrev mutual
  -- the first coordinate in a data type
  pub coords_in : Tree → CoordType × Dimension
  coords_in (list n t b m) = coords_in t
  coords_in (large_list n t b m) = coords_in t
  coords_in (fixed_size_list n t b m size) = (Interleaved, dimension_named n)
  coords_in (struct fs) = (Separated, dimension_among (names_of fs))
  coords_in (union ms mode) = first_coords ms
  coords_in (plain p) = (Separated, XY)

  pub first_coords : MemberTrees → CoordType × Dimension
  first_coords no_members = (Separated, XY)
  first_coords (member i n t b m ms) = coords_in t

-- what P reads of a data type is its first coordinate
abbrev pub ReadsFirst : (Tree → CoordType → Dimension → Type 0) → Type 0
ReadsFirst P = (t : Tree) (c : CoordType) (d : Dimension) → P t c d → coords_in t ≡ (c, d)

pub named_back : (d : Dimension) → dimension_named (interleaved_name d) ≡ d
named_back XY = refl
named_back _ = refl

pub among_back : (names : List Text) (d : Dimension) → IsSeparatedAs d names → dimension_among names ≡ d
unfolding SameNames
among_back names XYZ h = rw (h.0, h.1 (codes "m")) refl
among_back names XYM h = rw (h.0, h.1 (codes "m")) refl
among_back names _ h = rw h refl

leaf_first : ReadsFirst Leaf
leaf_first (fixed_size_list n t b m size) Interleaved d h = rw (h.0, named_back d) refl
leaf_first (struct fs) Separated d h = rw (among_back (names_of fs) d h) refl
leaf_first _ _ d h = search

lists_first : (w : ListWidth) (n : ℕ) (t u : Tree) → ListsOver w n t u → coords_in t ≡ coords_in u
lists_first w zero t u h = ap coords_in h
lists_first Lists (suc n) (list nm t b m) u h = lists_first Lists n t u h
lists_first LargeLists (suc n) (large_list nm t b m) u h = lists_first LargeLists n t u h
lists_first _ (suc n) _ u h = absurd h

under_first : (P : Tree → CoordType → Dimension → Type 0) → ReadsFirst P → (n : ℕ) → ReadsFirst (Under P n)
under_first P first n t c d h = lists_first h.1.0 n t h.0 h.1.1 ∙ first h.0 c d h.2

pub over_leaf_first : (k : NativeKind) → ReadsFirst (λ t. OverLeaf t k)
over_leaf_first GeometryCollection t c d h = absurd h
over_leaf_first k t c d h = under_first Leaf leaf_first (levels_of k) t c d h

pub member_first : (i : ℤ) → ReadsFirst (Member i)
member_first i t c d h = over_leaf_first h.0 t c d h.2

pub mixed_first : ReadsFirst Mixed
mixed_first (union no_members mode) c d h = absurd h.0
mixed_first (union (member i n t b m ms) mode) c d h = member_first i t c d h.1.0
mixed_first _ c d h = absurd h

pub native_first : (k : NativeKind) → ReadsFirst (λ t. Native t k)
native_first GeometryCollection t c d h = under_first Mixed mixed_first 1 t c d h
native_first k t c d h = over_leaf_first k t c d h

pub geometry_member_first : (i : ℤ) → ReadsFirst (GeometryMember i)
geometry_member_first i t c d h = native_first h.0 t c d h.2

pub geometry_first : (t : Tree) (c : CoordType) → Geometry t c → (coords_in t).0 ≡ c
geometry_first (union no_members mode) c h = absurd h.0
geometry_first (union (member i n t b m ms) mode) c h = ap (λ p. p.0) (geometry_member_first i t c h.1.0.0 h.1.0.1)
geometry_first _ c h = absurd h

-- a data type of a native kind has one coordinate type and one dimension
pub any_native_same : (k : NativeKind) (t : Tree) (c b : CoordType) (d e : Dimension) → Native t k c d → Native t k b e → (c ≡ b) × (d ≡ e)
any_native_same k t c b d e h g = let same = sym (native_first k t c d h) ∙ native_first k t b e g in (ap (λ p. p.0) same, ap (λ p. p.1) same)

-- a geometry has one coordinate type
pub geometry_same : (t : Tree) (c b : CoordType) → Geometry t c → Geometry t b → c ≡ b
geometry_same t c b h g = sym (geometry_first t c h) ∙ geometry_first t b g

-- a box has one dimension
pub box_shape_same : (t : Tree) (d e : Dimension) → BoxShape t d → BoxShape t e → d ≡ e
box_shape_same (struct fs) d e h g = box_same (names_of fs) d e h g
  where
    box_same : (names : List Text) (d e : Dimension) → IsBoxAs d names → IsBoxAs e names → d ≡ e
    box_same names XYZ XYM h k = absurd (h.1 k.1)
    box_same names XYM XYZ h k = absurd (k.1 h.1)
    box_same names d e h k = grind arith
box_shape_same _ d e h g = absurd h
