-- The data types as read: which data type is of which kind.
use Rattle.std.specs.Prelude.{◌≡◌, ◌*◌, ◌↔◌, ◌⊎◌, ◌∷◌}
use Rattle.geoarrow_layout.specs.Words.{Text, Tree, plain, binary, large_binary, binary_view, utf8, large_utf8, utf8_view, list, large_list, fixed_size_list, struct, union, FieldTrees, no_fields, field, MemberTrees, no_members, member, ℕ, zero, suc, ℤ, pos, List, [], length, codes, Bool, true, Option, Some, Result, Ok, list_any, bytes_eq, CoordType, Interleaved, Separated, Dimension, XYZ, XYM, NativeKind, GeometryCollection, Width, Plain, Large, View, Kind, OfNative, OfGeometry, OfRect, OfWkb, OfWkt, ListWidth, Lists, LargeLists, LayoutFault}
use Rattle.geoarrow_layout.specs.Kinds.{size_of, interleaved_name, levels_of, type_id_of, name_of}

-- the result is the coordinate type and dimension for which R holds, or an error if it holds for none
abbrev pub Yields : Result (CoordType × Dimension) LayoutFault → (CoordType → Dimension → Type 0) → Type 0
Yields r R = (c : CoordType) (d : Dimension) → (r ≡ Ok (c, d)) ↔ R c d

-- the result is the value for which R holds, or an error if it holds for none
abbrev pub YieldsOne : {X : Type 0} → Result X LayoutFault → (X → Type 0) → Type 0
YieldsOne {X} r R = (x : X) → (r ≡ Ok x) ↔ R x

-- the names of fields, in order
abbrev pub names_of : FieldTrees → List Text
names_of no_fields = []
names_of (field n t b m fs) = n ∷ names_of fs

-- whether the name is among the names
abbrev pub has_name : Text → List Text → Bool
has_name n names = list_any (λ m. bytes_eq m n) names

-- both lists have the same names, in any order and any number of times
unfoldable pub SameNames : List Text → List Text → Type 0
SameNames xs ys = (n : Text) → has_name n xs ≡ has_name n ys

-- fields with these names are a separated coordinate: their number gives the dimension, and if there are three, their names
abbrev pub IsSeparatedAs : Dimension → List Text → Type 0
IsSeparatedAs XYZ names = (length names ≡ 3) × SameNames names (codes "x" ∷ codes "y" ∷ codes "z" ∷ [])
IsSeparatedAs XYM names = (length names ≡ 3) × SameNames names (codes "x" ∷ codes "y" ∷ codes "m" ∷ [])
IsSeparatedAs d names = length names ≡ size_of d

-- the data type is a coordinate of that type and dimension
abbrev pub Leaf : Tree → CoordType → Dimension → Type 0
Leaf (fixed_size_list name t b m size) Interleaved d = (name ≡ interleaved_name d) × (size ≡ pos (size_of d))
Leaf (struct fields) Separated d = IsSeparatedAs d (names_of fields)
Leaf _ _ _ = ⊥

-- the data type t is n lists of width w over u
abbrev pub ListsOver : ListWidth → ℕ → Tree → Tree → Type 0
ListsOver w zero t u = t ≡ u
ListsOver Lists (suc n) (list name t b m) u = ListsOver Lists n t u
ListsOver LargeLists (suc n) (large_list name t b m) u = ListsOver LargeLists n t u
ListsOver w (suc n) _ u = ⊥

-- the data type t is n lists, all of one width, over a data type for which P holds
abbrev pub Under : (Tree → CoordType → Dimension → Type 0) → ℕ → Tree → CoordType → Dimension → Type 0
Under P n t c d = (u : Tree) × ((w : ListWidth) × ListsOver w n t u) × P u c d

-- the data type t is the lists of a native kind over a coordinate; a collection is not, since it has a union there
abbrev pub OverLeaf : Tree → NativeKind → CoordType → Dimension → Type 0
OverLeaf t GeometryCollection c d = ⊥
OverLeaf t k c d = Under Leaf (levels_of k) t c d

-- a member of a collection: its data type has the kind and the dimension of its type id
abbrev pub Member : ℤ → Tree → CoordType → Dimension → Type 0
Member i t c d = (k : NativeKind) × (i ≡ pos (type_id_of k d)) × OverLeaf t k c d

-- P holds for the type id and the data type of every member
abbrev pub AllMembers : (ℤ → Tree → Type 0) → MemberTrees → Type 0
AllMembers P no_members = Unit {0}
AllMembers P (member i n t b m ms) = P i t × AllMembers P ms

-- P holds for the type id and the data type of some member
abbrev pub SomeMember : (ℤ → Tree → Type 0) → MemberTrees → Type 0
SomeMember P no_members = ⊥
SomeMember P (member i n t b m ms) = P i t ⊎ SomeMember P ms

-- there is at least one member
abbrev pub HasMembers : MemberTrees → Type 0
HasMembers no_members = ⊥
HasMembers (member i n t b m ms) = Unit {0}

-- the data type is the union in a collection: at least one member, and all of one coordinate type and one dimension
abbrev pub Mixed : Tree → CoordType → Dimension → Type 0
Mixed (union ms mode) c d = HasMembers ms × AllMembers (λ i t. Member i t c d) ms
Mixed _ c d = ⊥

-- the data type is a collection: a list over that union
abbrev pub Collection : Tree → CoordType → Dimension → Type 0
Collection t c d = Under Mixed 1 t c d

-- the data type is of this native kind, coordinate type and dimension
abbrev pub Native : Tree → NativeKind → CoordType → Dimension → Type 0
Native t GeometryCollection c d = Collection t c d
Native t k c d = OverLeaf t k c d

-- a member of a geometry: the same, of any native kind, collections among them
abbrev pub GeometryMember : ℤ → Tree → CoordType → Dimension → Type 0
GeometryMember i t c d = (k : NativeKind) × (i ≡ pos (type_id_of k d)) × Native t k c d

-- the data type is a geometry: a union of at least one member, all of one coordinate type
abbrev pub Geometry : Tree → CoordType → Type 0
Geometry (union ms mode) c = HasMembers ms × AllMembers (λ i t. (d : Dimension) × GeometryMember i t c d) ms
Geometry _ c = ⊥

-- both names are among the names
abbrev pub HaveBoth : Text → Text → List Text → Type 0
HaveBoth m n names = (has_name m names ≡ true) × (has_name n names ≡ true)

-- fields with these names are a box: their number gives the dimension, and if there are six, their names
abbrev pub IsBoxAs : Dimension → List Text → Type 0
IsBoxAs XYZ names = (length names ≡ 6) × ¬ HaveBoth (codes "mmin") (codes "mmax") names × HaveBoth (codes "zmin") (codes "zmax") names
IsBoxAs XYM names = (length names ≡ 6) × HaveBoth (codes "mmin") (codes "mmax") names
IsBoxAs d names = length names ≡ 2 * size_of d

-- the data type is a box of that dimension
abbrev pub BoxShape : Tree → Dimension → Type 0
BoxShape (struct fs) d = IsBoxAs d (names_of fs)
BoxShape _ d = ⊥

-- the data type is that of well-known binary in this width
abbrev pub IsBytes : Width → Tree → Type 0
IsBytes Plain t = t ≡ plain binary
IsBytes Large t = t ≡ plain large_binary
IsBytes View t = t ≡ plain binary_view

-- the data type is that of well-known text in this width
abbrev pub IsText : Width → Tree → Type 0
IsText Plain t = t ≡ plain utf8
IsText Large t = t ≡ plain large_utf8
IsText View t = t ≡ plain utf8_view

-- the kind accepts the data type
abbrev pub Accepted : Kind → Tree → Type 0
Accepted (OfNative k c d) t = Native t k c d
Accepted (OfGeometry c) t = Geometry t c
Accepted (OfRect d) t = BoxShape t d
Accepted (OfWkb w) t = IsBytes w t
Accepted (OfWkt w) t = IsText w t

-- a column with that extension name and data type is of that kind
abbrev pub Accepts : Text → Tree → Kind → Type 0
Accepts name t k = (name ≡ name_of k) × Accepted k t

-- the kind is neither well-known binary nor well-known text
abbrev pub IsStructured : Kind → Type 0
IsStructured (OfWkb w) = ⊥
IsStructured (OfWkt w) = ⊥
IsStructured k = Unit {0}

-- the result is the kind of a column with that name and data type; none if there is none, and for well-known binary and text
abbrev pub YieldsKind : Text → Tree → Option Kind → Type 0
YieldsKind name t r = (k : Kind) → (r ≡ Some k) ↔ (Accepts name t k × IsStructured k)
