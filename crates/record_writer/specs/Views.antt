-- A column that is lent, as contracts see it.
use Rattle.std.specs.Prelude.{◌≡◌, ℕ, Option, Some, None}
use Rattle.arrow_values.specs.View.{tree, texts_of}
use Rattle.arrow_columns.specs.Types.{TypeTree, known, leaf, ColumnTree}
use Rattle.arrow_columns.specs.Column.{type_tree, column_tree}
use Rattle.arrow_columns.specs.declared.column.AnyType.{AnyType}
use Rattle.arrow_columns.specs.declared.column.SchemaColumn.{SchemaColumn}
use Rattle.record_writer.specs.Placed.{Placed, at}
use Rattle.record_writer.specs.Formats.{format_in}
use Rattle.record_writer.specs.declared.part.Part.{Part}
use Rattle.record_writer.specs.declared.part.PartType.{PartType}
use Rattle.record_writer.specs.declared.part.PartType.TheVariants.{Data, Leaf}

abbrev pub type_in : PartType → TypeTree
type_in (Data d) = known (tree d.now)
type_in (Leaf notation) = leaf notation.now

abbrev pub column_in : Part → ColumnTree
column_in p = record {
  name = p.name.now;
  data_type = type_in p.data_type;
  nullable = p.nullable;
  metadata = texts_of p.metadata.now.entries;
}

abbrev pub placed_in : Part → Placed
placed_in p = at p.level (column_in p)

-- a type of a schema, lent; none only where it has no format string
abbrev pub IsTypeOf : AnyType → Option PartType → Type 0
IsTypeOf t None = format_in (type_tree t) ≡ None
IsTypeOf t (Some p) = type_in p ≡ type_tree t

-- a column of a schema as one of a level; none only where its type has no format string
abbrev pub IsPartOf : SchemaColumn → ℕ → Option Part → Type 0
IsPartOf c level None = format_in (type_tree c.data_type) ≡ None
IsPartOf c level (Some p) = (column_in p ≡ column_tree c) × (p.level ≡ level)
