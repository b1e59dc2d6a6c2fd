-- The tags of types, and the number and the truth value that the table of a type has.
use Rattle.std.specs.Prelude.{ℕ, ℤ, pos, negsuc, Bool, true, false, ◌&&◌, not, List, [], ◌∷◌, ◌++◌, map, Option, Some, None, ◌^◌, nat_lt, if◌then◌else◌}
use Rattle.std.specs.Option.{option_map_or}
use Rattle.arrow_values.specs.Tree.{null, boolean, int8, int16, int32, int64, uint8, uint16, uint32, uint64, float16, float32, float64, date32, date64, binary, large_binary, binary_view, utf8, large_utf8, utf8_view, Plain, Tree, plain, list, large_list, fixed_size_list, struct, union, MemberTrees, no_members, member, FieldTree}
use Rattle.arrow_values.specs.View.{field_list}
use Rattle.arrow_columns.specs.Types.{known, ColumnTree}
use Rattle.arrow_values.specs.Union.{has}
use Rattle.arrow_ipc.specs.Blocks.{type_block, union_block}

-- a type's tag, with the number and the truth value that its table has
abbrev pub Shape : Type 0
Shape = ℕ × Option ℕ × Option Bool

-- of a plain type
abbrev pub plain_shape : Plain → Shape
plain_shape null = (1, None, None)
plain_shape boolean = (6, None, None)
plain_shape int8 = (2, Some 8, Some true)
plain_shape int16 = (2, Some 16, Some true)
plain_shape int32 = (2, Some 32, Some true)
plain_shape int64 = (2, Some 64, Some true)
plain_shape uint8 = (2, Some 8, Some false)
plain_shape uint16 = (2, Some 16, Some false)
plain_shape uint32 = (2, Some 32, Some false)
plain_shape uint64 = (2, Some 64, Some false)
plain_shape float16 = (3, Some 0, None)
plain_shape float32 = (3, Some 1, None)
plain_shape float64 = (3, Some 2, None)
plain_shape date32 = (8, Some 0, None)
plain_shape date64 = (8, Some 1, None)
plain_shape binary = (4, None, None)
plain_shape large_binary = (19, None, None)
plain_shape binary_view = (23, None, None)
plain_shape utf8 = (5, None, None)
plain_shape large_utf8 = (20, None, None)
plain_shape utf8_view = (24, None, None)

-- a field is a column whose type is a data type
abbrev pub column_of : FieldTree → ColumnTree
column_of f = record { name = f.name; data_type = known f.tree; nullable = f.nullable; metadata = f.metadata }

-- a list of a size that is not negative
abbrev pub sized_shape : ℤ → Option Shape
sized_shape (pos n) = if nat_lt n (2 ^ 31) then Some (16, Some n, None) else None
sized_shape (negsuc n) = None

-- of any type; none of a union, and where it is one that no message can hold
abbrev pub shape_of : Tree → Option Shape
shape_of (plain p) = Some (plain_shape p)
shape_of (list n t b m) = Some (12, None, None)
shape_of (large_list n t b m) = Some (21, None, None)
shape_of (fixed_size_list n t b m s) = sized_shape s
shape_of (struct fs) = Some (13, None, None)
shape_of (union ms mode) = None

-- the fields that a type nests, and the same as columns
abbrev pub member_fields : MemberTrees → List FieldTree
member_fields no_members = []
member_fields (member i n t b m ms) = record { name = n; tree = t; nullable = b; metadata = m } ∷ member_fields ms

abbrev pub nested_fields : Tree → List FieldTree
nested_fields (plain p) = []
nested_fields (list n t b m) = record { name = n; tree = t; nullable = b; metadata = m } ∷ []
nested_fields (large_list n t b m) = record { name = n; tree = t; nullable = b; metadata = m } ∷ []
nested_fields (fixed_size_list n t b m s) = record { name = n; tree = t; nullable = b; metadata = m } ∷ []
nested_fields (struct fs) = field_list fs
nested_fields (union ms mode) = member_fields ms

abbrev pub nested_columns : Tree → List ColumnTree
nested_columns t = map column_of (nested_fields t)

abbrev pub member_ids : MemberTrees → List ℤ
member_ids no_members = []
member_ids (member i n t b m ms) = i ∷ member_ids ms

-- a type id is 0 to 127
abbrev pub is_id : ℤ → Bool
is_id (pos n) = nat_lt n 128
is_id (negsuc n) = false

-- the type ids of a union, each of which is none of those before
abbrev pub are_ids : List ℤ → List ℤ → Bool
are_ids before [] = true
are_ids before (i ∷ is) = is_id i && not (has i before) && are_ids (before ++ i ∷ []) is

-- a type's table, and whether the type has one, whatever it nests
abbrev pub union_bytes : Tree → List ℕ
union_bytes (union ms mode) = union_block mode (member_ids ms)
union_bytes _ = []

abbrev pub has_ids : Tree → Bool
has_ids (union ms mode) = are_ids [] (member_ids ms)
has_ids _ = false

abbrev pub tag_of : Tree → ℕ
tag_of t = option_map_or (λ s. s.0) (shape_of t) 14

abbrev pub bytes_of : Tree → List ℕ
bytes_of t = option_map_or (λ s. type_block s.1 s.2) (shape_of t) (union_bytes t)

abbrev pub has_table : Tree → Bool
has_table t = option_map_or (λ s. true) (shape_of t) (has_ids t)
