-- The stream of a schema that lies in memory (docs/FORMAT.md, 2.8 and 3.6).
use Rattle.std.specs.Prelude.{◌≡◌, ℕ, Option, None, Result, Ok, Err}
use Rattle.arrow_ipc.specs.Denotes.{IsStreamOf}
use Rattle.arrow_ipc.specs.Rooms.{schema_room}
use Rattle.arrow_ipc.specs.Schema.{SchemaTree}
use Rattle.arrow_ipc.specs.Writes.{RefusesColumns}
use Rattle.arrow_ipc.specs.declared.schema.Endianness.TheVariants.{Little}
use Rattle.arrow_ipc.specs.declared.write.WriteError.{WriteError}
use Rattle.column_files.specs.Refusals.{Told, told}
use Rattle.geoarrow_fields.specs.Lines.{Bytes}
use Rattle.record_columns.specs.Schemas.{schema_tree}
use Rattle.record_columns.specs.declared.schema.RecordSchema.{RecordSchema}
use Rattle.geoarrow_c.specs.Records.{Schema, IsRead}
use Rattle.geoarrow_c.specs.Refusals.{line_of, IsLineOfSchema}
use Rattle.geoarrow_c.specs.Walks.{walk_number}
use Rattle.geoarrow_c.specs.declared.records.Refusal.{Refusal}
use Rattle.geoarrow_c.specs.declared.records.Refusal.TheVariants as refusals
use Rattle.geoarrow_c.specs.declared.walk.Walk.{Walk}

-- the schema as it is written: of the byte order of little-endian
abbrev pub written : Schema → SchemaTree
written s = record { columns = s.0; metadata = s.1; endianness = Little }

-- the stream is of a schema that was read
abbrev pub IsStreamRead : Result RecordSchema Refusal → Bytes → Type 0
IsStreamRead (Ok s) stream = IsStreamOf 61 stream (written (schema_tree s))
IsStreamRead (Err refusal) stream = ⊥

-- the line says why there is none: what is told of the structures, or why no message can hold the schema
abbrev pub IsUnstreamedRead : Result RecordSchema Refusal → Bytes → Type 0
IsUnstreamedRead (Ok s) line =
    (error : WriteError) × RefusesColumns 61 error (schema_tree s).0 (schema_room (written (schema_tree s))) × IsLineOfSchema None error line
IsUnstreamedRead (Err (refusals.Told fault)) line = line ≡ line_of None (told fault)
IsUnstreamedRead (Err refusals.OutOfMemory) line = ⊥

-- the text is what `Is` says of what was read after a walk
pub record IsOfWalk (Is : Result RecordSchema Refusal → Bytes → Type 0) (given : Walk → Option (Result Schema Told)) (ended : ℕ) (text : Bytes) : Type 0 where
  pub walk : Walk
  pub read : Result RecordSchema Refusal
  pub walk_is : ended ≡ walk_number walk
  pub is_read : IsRead read (given walk)
  pub is : Is read text

abbrev pub IsSchemaStream : (Walk → Option (Result Schema Told)) → ℕ → Bytes → Type 0
IsSchemaStream given ended stream = IsOfWalk IsStreamRead given ended stream

abbrev pub IsUnstreamedSchema : (Walk → Option (Result Schema Told)) → ℕ → Bytes → Type 0
IsUnstreamedSchema given ended line = IsOfWalk IsUnstreamedRead given ended line
