-- Which fault a reader names, and where it is: the table of faults, rule by rule.
use Rattle.std.specs.Prelude.{◌≡◌, ◌≢◌, ◌*◌, ◌⊎◌, ◌∷◌, ◌++◌}
use Rattle.geoarrow_layout.specs.Words.{Text, Tree, plain, null, list, large_list, fixed_size_list, struct, union, FieldTrees, no_fields, field, MemberTrees, no_members, member, FieldTree, field_tree, ℕ, zero, suc, ℤ, pos, List, [], length, Option, None, Some, CoordType, Dimension, NativeKind, GeometryCollection, Width, ListWidth, Lists, LargeLists, LayoutFault, UnexpectedType, BadInterleavedName, BadSize, BadFieldNames, BadFieldCount, MixedWidths, BadTypeId, MemberDimension, EmptyUnion, SeveralCoordTypes, SeveralDimensions, ExtensionName}
use Rattle.geoarrow_layout.specs.declared.names.ExtensionName.TheVariants as names
use Rattle.geoarrow_layout.specs.Kinds.{size_of, interleaved_name, levels_of, type_id_of}
use Rattle.geoarrow_layout.specs.Shapes.{names_of, IsSeparatedAs, OverLeaf, Member, AllMembers, Native, GeometryMember, IsBoxAs, IsBytes, IsText}

-- the way from a data type to one inside it: at each step the place of a child field, from 0. The item of a list has the place 0
abbrev pub Path : Type 0
Path = List ℕ

-- a fault, and where it is
abbrev pub Located : Type 1
Located = Path → LayoutFault → Type 0

-- the fault of a data type, and where it is
abbrev pub Faults : Type 1
Faults = Tree → Located

-- the fault f, wherever it is
abbrev pub HasFault : Located → LayoutFault → Type 0
HasFault F f = (p : Path) × F p f

-- this fault, of the data type itself
abbrev pub Here : LayoutFault → Located
Here fault p f = (p ≡ []) × (f ≡ fault)

-- a fault of the item of a list
abbrev pub InItem : Located → Located
InItem F (zero ∷ p) f = F p f
InItem F _ f = ⊥

-- ---- coordinates and boxes

-- a struct whose fields have these names: their number is that of no dimension; or there are three, and their names are those of no dimension
abbrev pub SeparatedFault : List Text → Located
SeparatedFault names p f =
    (((d : Dimension) → length names ≢ size_of d) × Here BadFieldCount p f)
    ⊎ ((length names ≡ 3) × ((d : Dimension) → ¬ IsSeparatedAs d names) × Here BadFieldNames p f)

-- a coordinate is a fixed size list, whose name is that of no dimension, or is, and the size is another; or a struct
abbrev pub CoordinateFault : Faults
CoordinateFault (fixed_size_list name t b m size) p f =
    (((d : Dimension) → name ≢ interleaved_name d) × Here BadInterleavedName p f)
    ⊎ ((d : Dimension) × (name ≡ interleaved_name d) × (size ≢ pos (size_of d)) × Here BadSize p f)
CoordinateFault (struct fields) p f = SeparatedFault (names_of fields) p f
CoordinateFault _ p f = Here UnexpectedType p f

-- fields with these names are no box: their number is that of no box; or there are six, and their names are those of no box
abbrev pub BoxNamesFault : List Text → Located
BoxNamesFault names p f =
    (((d : Dimension) → length names ≢ 2 * size_of d) × Here BadFieldCount p f)
    ⊎ ((length names ≡ 6) × ((d : Dimension) → ¬ IsBoxAs d names) × Here BadFieldNames p f)

-- a box is a struct
abbrev pub BoxFault : Faults
BoxFault (struct fields) p f = BoxNamesFault (names_of fields) p f
BoxFault _ p f = Here UnexpectedType p f

-- ---- lists

-- n levels of one width, or, inside a list, of the width of that list, over a data type of which F says the fault
abbrev pub LevelsFault : Faults → Option ListWidth → ℕ → Faults
LevelsFault F w zero t p f = F t p f
LevelsFault F (Some LargeLists) (suc n) (list name t b m) p f = Here MixedWidths p f
LevelsFault F (Some Lists) (suc n) (large_list name t b m) p f = Here MixedWidths p f
LevelsFault F w (suc n) (list name t b m) p f = InItem (LevelsFault F (Some Lists) n t) p f
LevelsFault F w (suc n) (large_list name t b m) p f = InItem (LevelsFault F (Some LargeLists) n t) p f
LevelsFault F w (suc n) _ p f = Here UnexpectedType p f

-- the lists of a native kind over a coordinate; a collection is not allowed there
abbrev pub OverLeafFault : NativeKind → Faults
OverLeafFault GeometryCollection t p f = Here BadTypeId p f
OverLeafFault k t p f = LevelsFault CoordinateFault None (levels_of k) t p f

-- ---- unions

-- a member's type id is that of no kind and dimension; or it is, and the data type has a fault as one of that kind, or has none and is of another dimension
abbrev pub PartFault : (Tree → NativeKind → CoordType → Dimension → Type 0) → (NativeKind → Faults) → ℤ → Faults
PartFault N F i t p f =
    (((k : NativeKind) (d : Dimension) → i ≢ pos (type_id_of k d)) × Here BadTypeId p f)
    ⊎ ((k : NativeKind) × (d : Dimension) × (i ≡ pos (type_id_of k d)) × (F k t p f ⊎ ((c : CoordType) × (e : Dimension) × N t k c e × (e ≢ d) × Here MemberDimension p f)))

-- the first member with a fault: those before it are read by R, and F says its fault
abbrev pub FirstFault : (ℤ → Tree → CoordType → Dimension → Type 0) → (ℤ → Faults) → MemberTrees → Located
FirstFault R F (member i n t b m ms) (zero ∷ p) f = F i t p f
FirstFault R F (member i n t b m ms) (suc j ∷ p) f = ((c : CoordType) × (d : Dimension) × R i t c d) × FirstFault R F ms (j ∷ p) f
FirstFault R F _ _ f = ⊥

-- a union has no members; or a member has a fault; or none has, and the members are not all of one coordinate type
abbrev pub UnionFault : (ℤ → Tree → CoordType → Dimension → Type 0) → (ℤ → Faults) → MemberTrees → Located
UnionFault R F no_members p f = Here EmptyUnion p f
UnionFault R F ms p f =
    FirstFault R F ms p f
    ⊎ (AllMembers (λ i t. (c : CoordType) × (d : Dimension) × R i t c d) ms × ((c : CoordType) → ¬ AllMembers (λ i t. (d : Dimension) × R i t c d) ms) × Here SeveralCoordTypes p f)

-- a member of a collection
abbrev pub MemberFault : ℤ → Faults
MemberFault i t p f = PartFault OverLeaf OverLeafFault i t p f

-- the members of a collection are of one coordinate type, but not of one dimension too
abbrev pub DimensionsFault : MemberTrees → Located
DimensionsFault ms p f =
    ((c : CoordType) × AllMembers (λ i t. (d : Dimension) × Member i t c d) ms)
    × ((c : CoordType) (d : Dimension) → ¬ AllMembers (λ i t. Member i t c d) ms) × Here SeveralDimensions p f

-- the union in a collection
abbrev pub MixedFault : Faults
MixedFault (union ms mode) p f = UnionFault Member MemberFault ms p f ⊎ DimensionsFault ms p f
MixedFault _ p f = Here UnexpectedType p f

-- a native kind; a collection is one list over that union
abbrev pub NativeFault : NativeKind → Faults
NativeFault GeometryCollection t p f = LevelsFault MixedFault None 1 t p f
NativeFault k t p f = OverLeafFault k t p f

-- a member of a geometry
abbrev pub GeometryMemberFault : ℤ → Faults
GeometryMemberFault i t p f = PartFault Native NativeFault i t p f

-- a geometry
abbrev pub GeometryFault : Faults
GeometryFault (union ms mode) p f = UnionFault GeometryMember GeometryMemberFault ms p f
GeometryFault _ p f = Here UnexpectedType p f

-- ---- by the extension name

-- the data type, under that extension name, has the fault f at the path p. Well-known binary and text have no other fault than their data type
abbrev pub FaultAt : ExtensionName → Faults
FaultAt (names.Native k) t p f = NativeFault k t p f
FaultAt names.Geometry t p f = GeometryFault t p f
FaultAt names.Rect t p f = BoxFault t p f
FaultAt names.Wkb t p f = ((w : Width) → ¬ IsBytes w t) × Here UnexpectedType p f
FaultAt names.Wkt t p f = ((w : Width) → ¬ IsText w t) × Here UnexpectedType p f

-- ---- the data types on a path

-- the field at that place
abbrev pub field_at : FieldTrees → ℕ → Option FieldTree
field_at no_fields i = None
field_at (field n t b m fs) zero = Some (field_tree n t b m)
field_at (field n t b m fs) (suc i) = field_at fs i

-- the member at that place
abbrev pub member_at : MemberTrees → ℕ → Option FieldTree
member_at no_members i = None
member_at (member j n t b m ms) zero = Some (field_tree n t b m)
member_at (member j n t b m ms) (suc i) = member_at ms i

-- the child field at that place, if there is one: the item of a list, the fields of a struct, the members of a union
abbrev pub child_at : Tree → ℕ → Option FieldTree
child_at (list n t b m) zero = Some (field_tree n t b m)
child_at (large_list n t b m) zero = Some (field_tree n t b m)
child_at (fixed_size_list n t b m size) zero = Some (field_tree n t b m)
child_at (struct fs) i = field_at fs i
child_at (union ms mode) i = member_at ms i
child_at _ i = None

-- the name and the data type of a child field that there may be; where there is none, no name and a data type without fields
abbrev pub child_name : Option FieldTree → List Text
child_name None = []
child_name (Some f) = f.name ∷ []

abbrev pub child_tree : Option FieldTree → Tree
child_tree None = plain null
child_tree (Some f) = f.tree

-- the names of the child fields on a path, as far as there are fields
abbrev pub names_along : Tree → Path → List Text
names_along t [] = []
names_along t (i ∷ p) = child_name (child_at t i) ++ names_along (child_tree (child_at t i)) p
