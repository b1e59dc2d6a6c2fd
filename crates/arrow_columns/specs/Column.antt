-- A column as contracts see it.
use Rattle.std.specs.Prelude.{Option, string_bytes}
use Rattle.arrow_values.specs.Tree.{Text, FieldTree}
use Rattle.arrow_values.specs.View.{tree, texts_of}
use Rattle.arrow_values.specs.Texts.{text_at, name_key, metadata_key}
use Rattle.arrow_columns.specs.Types.{TypeTree, known, other, ColumnTree, part_trees}
use Rattle.arrow_columns.specs.declared.column.SchemaColumn.{SchemaColumn}
use Rattle.arrow_columns.specs.declared.column.AnyType.{AnyType}
use Rattle.arrow_columns.specs.declared.column.AnyType.TheVariants.{Data, Other}

abbrev pub type_tree : AnyType → TypeTree
type_tree (Data d) = known (tree d)
type_tree (Other o) = other (string_bytes o.notation) o.form o.ids.items (part_trees o.parts.items)

abbrev pub column_tree : SchemaColumn → ColumnTree
column_tree c = record {
  name = string_bytes c.name;
  data_type = type_tree c.data_type;
  nullable = c.nullable;
  metadata = texts_of c.metadata.entries;
}

-- the name of a column's extension type, and its metadata
abbrev pub name_on : ColumnTree → Option Text
name_on c = text_at name_key c.metadata

abbrev pub metadata_on : ColumnTree → Option Text
metadata_on c = text_at metadata_key c.metadata

-- the column of a field
abbrev pub column_of : FieldTree → ColumnTree
column_of f = record { name = f.name; data_type = known f.tree; nullable = f.nullable; metadata = f.metadata }
