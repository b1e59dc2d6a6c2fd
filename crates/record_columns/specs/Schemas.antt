-- A schema with its metadata, as contracts see it.
use Rattle.std.specs.Prelude.{ℕ, Bool, not, ◌&&◌, ◌||◌, List, length, map, codes, bytes_eq, ◌==◌}
use Rattle.std.specs.Prelude.{Result, Ok}
use Rattle.std.specs.Option.{is_some}
use Rattle.arrow_values.specs.Texts.{text_at, name_key}
use Rattle.arrow_values.specs.Tree.{Metadata}
use Rattle.arrow_values.specs.View.{texts_of}
use Rattle.arrow_columns.specs.Column.{column_tree}
use Rattle.arrow_columns.specs.Types.{ColumnTree}
use Rattle.record_wire.specs.Fault.{◌>>=◌, within}
use Rattle.record_wire.specs.Record.{Structure, record_at}
use Rattle.record_wire.specs.Write.{text_of}
use Rattle.record_wire.specs.declared.fault.Fault.{Fault}
use Rattle.record_wire.specs.declared.fault.Rule.{Rule}
use Rattle.record_columns.specs.Texts.{texts_in}
use Rattle.record_columns.specs.declared.schema.RecordSchema.{RecordSchema}

abbrev pub schema_tree : RecordSchema → List ColumnTree × Metadata
schema_tree s = (map column_tree s.columns.items, texts_of s.metadata.entries)

abbrev pub is_struct : Structure → Bool
is_struct s = bytes_eq s.format (codes "+s") && not s.has_dictionary

abbrev pub is_named : Structure → Bool
is_named s = not (length (text_of s.name) == 0)

abbrev pub is_extension : Metadata → Bool
is_extension metadata = is_some (text_at name_key metadata)

-- whether a structure is that of a schema, where what gives it gives schemas and fields alike
-- (Arrow, "The Arrow PyCapsule Interface"): a struct that is no column of its own
unfoldable pub is_schema : Bool → Structure → Result Bool Rule
is_schema may_have_name s = do
  metadata ← texts_in s.metadata
  Ok (is_struct s && ((may_have_name || not (is_named s)) && not (is_extension metadata)))

-- the same of that of the record at the front of the bytes
unfoldable pub is_schema_at : Bool → List ℕ → Result Bool Fault
is_schema_at may_have_name bytes = do
  one ← record_at bytes
  within bytes (is_schema may_have_name one.0)
