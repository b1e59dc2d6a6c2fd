-- The column that stands for an element that breaks a rule (docs/FORMAT.md, 4.4).
use Rattle.std.specs.Prelude.{Bool, true, false, codes}
use Rattle.std.specs.Str.{bytes_eq}
use Rattle.arrow_values.specs.Tree.{Text}
use Rattle.arrow_columns.specs.Types.{TypeTree, known, other, leaf, ColumnTree}
use Rattle.parquet_columns.specs.Nodes.{plain_column}

abbrev pub unreadable_text : Text
unreadable_text = codes "unreadable"

abbrev pub unreadable_column : Text → ColumnTree
unreadable_column name = plain_column name true (leaf unreadable_text)

-- whether a type is that of such a column
abbrev pub is_unreadable : TypeTree → Bool
is_unreadable (known t) = false
is_unreadable (other text form ids parts) = bytes_eq text unreadable_text
