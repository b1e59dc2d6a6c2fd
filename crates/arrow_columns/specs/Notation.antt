-- Arrow's usual notation of types.
use Rattle.std.specs.Prelude.{ℤ, Bool, List, [], ◌∷◌, ◌++◌, codes, if◌then◌else◌}
use Rattle.std.specs.List.{join_by}
use Rattle.std.specs.Fmt.{signed_decimal}
use Rattle.arrow_values.specs.Tree.{Text, null, boolean, int8, int16, int32, int64, uint8, uint16, uint32, uint64, float16, float32, float64, date32, date64, binary, large_binary, binary_view, utf8, large_utf8, utf8_view, Plain, Tree, plain, list, large_list, fixed_size_list, struct, union, FieldTrees, no_fields, field, MemberTrees, no_members, member, FieldTree}
use Rattle.arrow_values.specs.declared.tree.UnionMode.{UnionMode}
use Rattle.arrow_values.specs.declared.tree.UnionMode.TheVariants.{Sparse, Dense}
use Rattle.arrow_columns.specs.Types.{TypeTree, known, other, ColumnTree}

-- what stands behind a part whose values may not be null
abbrev pub null_word : Bool → Text
null_word nullable = if nullable then [] else codes " not null"

-- a part of a nested type: name, type and nullability
abbrev pub part_text : Text → Text → Bool → Text
part_text name data_type nullable = name ++ codes ": " ++ data_type ++ null_word nullable

-- a member of a union: a part and its type id
abbrev pub member_text : Text → ℤ → Text
member_text part id = part ++ (codes "=" ++ signed_decimal id)

-- a nested type: a word and its parts
abbrev pub nested_text : Text → List Text → Text
nested_text word parts = word ++ codes "<" ++ join_by (λ t. t) (codes ", ") parts ++ codes ">"

-- a type with a size
abbrev pub sized_text : Text → ℤ → Text
sized_text data_type size = data_type ++ (codes "[" ++ signed_decimal size ++ codes "]")

abbrev pub union_word : UnionMode → Text
union_word Sparse = codes "sparse_union"
union_word Dense = codes "dense_union"

-- the word of a plain type, as the line format has it
abbrev pub plain_name : Plain → Text
plain_name null = codes "null"
plain_name boolean = codes "boolean"
plain_name int8 = codes "int8"
plain_name int16 = codes "int16"
plain_name int32 = codes "int32"
plain_name int64 = codes "int64"
plain_name uint8 = codes "uint8"
plain_name uint16 = codes "uint16"
plain_name uint32 = codes "uint32"
plain_name uint64 = codes "uint64"
plain_name float16 = codes "float16"
plain_name float32 = codes "float32"
plain_name float64 = codes "float64"
plain_name date32 = codes "date32"
plain_name date64 = codes "date64"
plain_name binary = codes "binary"
plain_name large_binary = codes "large_binary"
plain_name binary_view = codes "binary_view"
plain_name utf8 = codes "utf8"
plain_name large_utf8 = codes "large_utf8"
plain_name utf8_view = codes "utf8_view"

abbrev pub plain_word : Tree → Text
plain_word (plain p) = plain_name p
plain_word _ = []

-- a data type with all that is nested in it
abbrev mutual
  pub tree_text : Tree → Text
  tree_text (plain p) = plain_name p
  tree_text (list n t b m) = nested_text (codes "list") (part_text n (tree_text t) b ∷ [])
  tree_text (large_list n t b m) = nested_text (codes "large_list") (part_text n (tree_text t) b ∷ [])
  tree_text (fixed_size_list n t b m s) = sized_text (nested_text (codes "fixed_size_list") (part_text n (tree_text t) b ∷ [])) s
  tree_text (struct fs) = nested_text (codes "struct") (field_texts fs)
  tree_text (union ms mode) = nested_text (union_word mode) (member_texts ms)

  pub field_texts : FieldTrees → List Text
  field_texts no_fields = []
  field_texts (field n t b m fs) = part_text n (tree_text t) b ∷ field_texts fs

  pub member_texts : MemberTrees → List Text
  member_texts no_members = []
  member_texts (member i n t b m ms) = member_text (part_text n (tree_text t) b) i ∷ member_texts ms

abbrev pub field_text : FieldTree → Text
field_text f = part_text f.name (tree_text f.tree) f.nullable

-- any type of a column
abbrev pub type_text : TypeTree → Text
type_text (known t) = tree_text t
type_text (other s f ids ps) = s

-- a column as a part of a nested type
abbrev pub column_text : ColumnTree → Text
column_text c = part_text c.name (type_text c.data_type) c.nullable
