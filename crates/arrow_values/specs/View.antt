-- The tree that a `DataType` denotes, where fields are seen already as theirs.
use Rattle.std.specs.Prelude.{◌≡◌, ℕ, ℤ, List, [], ◌∷◌, map, String, string_bytes}
use Rattle.std.proofs.Common.{refl, ap}
use Rattle.std.specs.declared.alloc.Global.{Global}
use Rattle.std.specs.Borrow.{Bor}
use Rattle.arrow_values.specs.Tree.{Metadata, null, boolean, int8, int16, int32, int64, uint8, uint16, uint32, uint64, float16, float32, float64, date32, date64, binary, large_binary, binary_view, utf8, large_utf8, utf8_view, Tree, plain, list, large_list, fixed_size_list, struct, union, FieldTrees, no_fields, field, MemberTrees, no_members, member, FieldTree, Members, depth, fields_depth, members_depth}
use Rattle.arrow_values.specs.declared.tree.DataType.{DataType}
use Rattle.arrow_values.specs.declared.tree.DataType.TheVariants.{Null, Boolean, Int8, Int16, Int32, Int64, UInt8, UInt16, UInt32, UInt64, Float16, Float32, Float64, Date32, Date64, Binary, LargeBinary, BinaryView, Utf8, LargeUtf8, Utf8View, List as ListOf, LargeList, FixedSizeList, Struct, Union}

abbrev pub field_trees : List FieldTree → FieldTrees
field_trees [] = no_fields
field_trees (f ∷ fs) = field f.name f.tree f.nullable f.metadata (field_trees fs)

abbrev pub member_trees : Members → MemberTrees
member_trees [] = no_members
member_trees (m ∷ ms) = member m.0 m.1.name m.1.tree m.1.nullable m.1.metadata (member_trees ms)

abbrev pub tree : DataType → Tree
tree Null = plain null
tree Boolean = plain boolean
tree Int8 = plain int8
tree Int16 = plain int16
tree Int32 = plain int32
tree Int64 = plain int64
tree UInt8 = plain uint8
tree UInt16 = plain uint16
tree UInt32 = plain uint32
tree UInt64 = plain uint64
tree Float16 = plain float16
tree Float32 = plain float32
tree Float64 = plain float64
tree Date32 = plain date32
tree Date64 = plain date64
tree Binary = plain binary
tree LargeBinary = plain large_binary
tree BinaryView = plain binary_view
tree Utf8 = plain utf8
tree LargeUtf8 = plain large_utf8
tree Utf8View = plain utf8_view
tree (ListOf f) = list f.value.name f.value.tree f.value.nullable f.value.metadata
tree (LargeList f) = large_list f.value.name f.value.tree f.value.nullable f.value.metadata
tree (FixedSizeList f s) = fixed_size_list f.value.name f.value.tree f.value.nullable f.value.metadata s
tree (Struct fs) = struct (field_trees fs)
tree (Union ms mode) = union (member_trees ms) mode

abbrev pub texts_of : List (String Global × String Global) → Metadata
texts_of es = map (λ e. (string_bytes e.0, string_bytes e.1)) es

-- sizes, for recursion
abbrev pub field_size : FieldTree → ℕ
field_size f = depth f.tree

abbrev pub fields_size : List FieldTree → ℕ
fields_size fs = fields_depth (field_trees fs)

abbrev pub members_size : Members → ℕ
members_size ms = members_depth (member_trees ms)

-- a member that is lent
abbrev pub member_of_ref : ℤ × Bor FieldTree → ℤ × FieldTree
member_of_ref m = (m.0, m.1.now)

-- the fields and the members as lists, for specs that read a tree
abbrev pub field_list : FieldTrees → List FieldTree
field_list no_fields = []
field_list (field n t b m fs) = record { name = n; tree = t; nullable = b; metadata = m } ∷ field_list fs

abbrev pub member_list : MemberTrees → Members
member_list no_members = []
member_list (member i n t b m ms) = (i, record { name = n; tree = t; nullable = b; metadata = m }) ∷ member_list ms

pub listed_fields : (fs : List FieldTree) → field_list (field_trees fs) ≡ fs
listed_fields [] = refl
listed_fields (f ∷ fs) = ap (λ gs. f ∷ gs) (listed_fields fs)

pub listed_members : (ms : Members) → member_list (member_trees ms) ≡ ms
listed_members [] = refl
listed_members (m ∷ ms) = ap (λ ns. m ∷ ns) (listed_members ms)

pub field_trees_of_list : (fs : FieldTrees) → field_trees (field_list fs) ≡ fs
field_trees_of_list no_fields = refl
field_trees_of_list (field n t b m fs) = ap (field n t b m) (field_trees_of_list fs)
