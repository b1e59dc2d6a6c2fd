-- The columns of a schema that lies in memory as lines (docs/FORMAT.md, 2.7 and 2.8).
use Rattle.std.specs.Prelude.{◌≡◌, ℕ, Option, None, Result, Ok, Err, flat_map}
use Rattle.column_files.specs.Refusals.{Told, told}
use Rattle.geoarrow_fields.specs.Lines.{Bytes}
use Rattle.record_columns.specs.Schemas.{schema_tree}
use Rattle.record_columns.specs.declared.schema.RecordSchema.{RecordSchema}
use Rattle.geoarrow_c.specs.Canonical as columns
use Rattle.geoarrow_c.specs.Records.{Schema}
use Rattle.geoarrow_c.specs.Refusals.{line_of}
use Rattle.geoarrow_c.specs.SchemaStreams.{IsOfWalk}
use Rattle.geoarrow_c.specs.declared.records.Refusal.{Refusal}
use Rattle.geoarrow_c.specs.declared.records.Refusal.TheVariants as refusals
use Rattle.geoarrow_c.specs.declared.walk.Walk.{Walk}

-- the lines are those of the columns of a schema that was read
abbrev pub AreLinesRead : Result RecordSchema Refusal → Bytes → Type 0
AreLinesRead (Ok s) lines = lines ≡ flat_map columns.line_of (schema_tree s).0
AreLinesRead (Err refusal) lines = ⊥

-- the line says why there is none
abbrev pub IsRefusalRead : Result RecordSchema Refusal → Bytes → Type 0
IsRefusalRead (Ok s) line = ⊥
IsRefusalRead (Err (refusals.Told fault)) line = line ≡ line_of None (told fault)
IsRefusalRead (Err refusals.OutOfMemory) line = ⊥

abbrev pub AreSchemaLines : (Walk → Option (Result Schema Told)) → ℕ → Bytes → Type 0
AreSchemaLines given ended lines = IsOfWalk AreLinesRead given ended lines

abbrev pub IsSchemaRefusal : (Walk → Option (Result Schema Told)) → ℕ → Bytes → Type 0
IsSchemaRefusal given ended line = IsOfWalk IsRefusalRead given ended line
