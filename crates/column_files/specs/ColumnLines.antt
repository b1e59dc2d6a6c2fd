-- The line of a column, and which columns lines can represent.
use Rattle.std.specs.Prelude.{◌≡◌, ◌≤◌}
use Rattle.serde_json.specs.Data.{depth}
use Rattle.serde_json.specs.Read.{max_depth}
use Rattle.serde_json.specs.Written.{compact_text}
use Rattle.arrow_values.specs.Tree.{Text, Tree, FieldTree, field_tree}
use Rattle.arrow_columns.specs.Types.{ColumnTree, TypeTree, known, other, leaf}
use Rattle.field_lines.specs.Line.{line_of_field, value_of_field, other_value}
use Rattle.field_lines.specs.LineForm.{HasLineForm}

-- a column of a data type as a field
abbrev pub field_with : ColumnTree → Tree → FieldTree
field_with c t = field_tree c.name t c.nullable c.metadata

-- the line of a column: that of a field, or compact JSON with the object of another type
abbrev pub line_with : ColumnTree → TypeTree → Text
line_with c (known t) = line_of_field (field_with c t)
line_with c (other s f ids ps) = compact_text (other_value c.name s c.nullable c.metadata)

abbrev pub line_of_column : ColumnTree → Text
line_of_column c = line_with c c.data_type

-- a line can represent the column's type, and does not nest too deep; of another type the notation is all that is known
abbrev pub FitsWith : ColumnTree → TypeTree → Type 0
FitsWith c (known t) = HasLineForm t × (depth (value_of_field (field_with c t)) ≤ max_depth)
FitsWith c (other s f ids ps) = other s f ids ps ≡ leaf s

abbrev pub FitsLine : ColumnTree → Type 0
FitsLine c = FitsWith c c.data_type
