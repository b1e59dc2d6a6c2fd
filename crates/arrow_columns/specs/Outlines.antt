-- A type as a data type, in one respect: what has no meaning in it stands as `null`.
use Rattle.std.specs.Prelude.{Bool, true, false, List, [], ◌∷◌, Option, Some, None, if◌then◌else◌}
use Rattle.arrow_values.specs.Tree.{Tree, plain, null, binary, large_binary, binary_view, utf8, large_utf8, utf8_view, struct, FieldTree, field_tree}
use Rattle.arrow_values.specs.View.{field_trees}
use Rattle.arrow_columns.specs.Types.{TypeTree, known, other, PartTrees, no_parts, part, ColumnTree}
use Rattle.arrow_columns.specs.Nested.{only, list_tree}
use Rattle.arrow_columns.specs.declared.nested.ListForm.{ListForm}
use Rattle.arrow_columns.specs.declared.nested.ListForm.TheVariants.{Small, Large}
use Rattle.arrow_columns.specs.declared.other.Form.{Form}
use Rattle.arrow_columns.specs.declared.other.Form.TheVariants.{List as ListOf, ListView, LargeListView, Struct, Dictionary}
use Rattle.arrow_columns.specs.declared.outline.Outline.{Outline}
use Rattle.arrow_columns.specs.declared.outline.Outline.TheVariants.{Layout, Storage, Fields}

-- bytes and texts
abbrev pub is_bytes : Tree → Bool
is_bytes (plain binary) = true
is_bytes (plain large_binary) = true
is_bytes (plain binary_view) = true
is_bytes (plain utf8) = true
is_bytes (plain large_utf8) = true
is_bytes (plain utf8_view) = true
is_bytes _ = false

abbrev pub list_by : ListForm → Option FieldTree → Tree
list_by form None = plain null
list_by form (Some f) = list_tree form f.name f.tree f.nullable f.metadata

abbrev pub values_by : Option FieldTree → Tree
values_by None = plain null
values_by (Some f) = f.tree

abbrev pub bytes_by : Tree → Tree
bytes_by t = if is_bytes t then t else plain null

-- as the layouts of GeoArrow have it: lists and structs
abbrev pub as_layout : Form → List FieldTree → Tree
as_layout (ListOf form) fs = list_by form (only fs)
as_layout Struct fs = struct (field_trees fs)
as_layout _ fs = plain null

-- as Parquet stores it: lists and their views, structs, and dictionaries of bytes or texts as their values
abbrev pub as_stored : Form → List FieldTree → Tree
as_stored (ListOf form) fs = list_by form (only fs)
as_stored ListView fs = list_by Small (only fs)
as_stored LargeListView fs = list_by Large (only fs)
as_stored Struct fs = struct (field_trees fs)
as_stored Dictionary fs = bytes_by (values_by (only fs))
as_stored _ fs = plain null

-- as the fields that stand below it: a dictionary is its values, and anything else a struct of its parts
abbrev pub as_fields : Form → List FieldTree → Tree
as_fields Dictionary fs = values_by (only fs)
as_fields _ fs = struct (field_trees fs)

abbrev pub shaped : Outline → Form → List FieldTree → Tree
shaped Layout f fs = as_layout f fs
shaped Storage f fs = as_stored f fs
shaped Fields f fs = as_fields f fs

abbrev mutual
  pub outline : Outline → TypeTree → Tree
  outline v (known t) = t
  outline v (other s f ids ps) = shaped v f (outlines v ps)

  pub outlines : Outline → PartTrees → List FieldTree
  outlines v no_parts = []
  outlines v (part n t b m ps) = field_tree n (outline v t) b m ∷ outlines v ps

abbrev pub outlined : Outline → ColumnTree → FieldTree
outlined v c = field_tree c.name (outline v c.data_type) c.nullable c.metadata
