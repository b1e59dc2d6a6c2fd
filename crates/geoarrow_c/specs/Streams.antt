-- What the call that writes a schema writes for lines.
use Rattle.std.specs.Prelude.{◌≡◌, ◌⊎◌, List, [], map, None, Ok, Err}
use Rattle.std.specs.declared.vec.Vec.{Vec}
use Rattle.std.specs.declared.alloc.Global.{Global}
use Rattle.arrow_columns.specs.Column.{column_tree}
use Rattle.arrow_columns.specs.Types.{ColumnTree}
use Rattle.arrow_columns.specs.declared.column.SchemaColumn.{SchemaColumn}
use Rattle.arrow_ipc.specs.Schema.{SchemaTree}
use Rattle.arrow_ipc.specs.Denotes.{IsStreamOf}
use Rattle.arrow_ipc.specs.Rooms.{schema_room}
use Rattle.arrow_ipc.specs.Writes.{RefusesColumns}
use Rattle.arrow_ipc.specs.declared.schema.Endianness.TheVariants.{Little}
use Rattle.arrow_ipc.specs.declared.write.WriteError.{WriteError}
use Rattle.column_files.specs.Files.{AreLinesRead}
use Rattle.column_files.specs.declared.columns.FileFault.{FileFault}
use Rattle.column_files.specs.declared.form.Form.TheVariants.{Lines}
use Rattle.geoarrow_fields.specs.Lines.{Bytes}
use Rattle.geoarrow_c.specs.Refusals.{IsLineOfFile, IsLineOfSchema}

-- the columns that lines denote
abbrev pub AreOf : Bytes → List ColumnTree → Type 0
AreOf lines columns =
    (read : Vec SchemaColumn Global) × AreLinesRead lines (Ok read) × (columns ≡ map column_tree read.items)

-- the schema of columns: without metadata of its own, of the byte order of little-endian
abbrev pub schema_of : List ColumnTree → SchemaTree
schema_of columns = record { columns = columns; metadata = []; endianness = Little }

-- the stream is of the schema whose columns the lines denote
pub record IsStream (lines stream : Bytes) : Type 0 where
  pub columns : List ColumnTree
  pub denoted : AreOf lines columns
  pub is : IsStreamOf 61 stream (schema_of columns)

-- the line says which of the lines denotes no column, and why
pub record IsUnread (lines line : Bytes) : Type 0 where
  pub fault : FileFault
  pub reads : AreLinesRead lines (Err fault)
  pub is : IsLineOfFile None Lines fault line

-- the line says why no message can hold the columns that the lines denote
pub record IsUnwritten (lines line : Bytes) : Type 0 where
  pub columns : List ColumnTree
  pub error : WriteError
  pub denoted : AreOf lines columns
  pub refused : RefusesColumns 61 error columns (schema_room (schema_of columns))
  pub is : IsLineOfSchema None error line

-- the line says why there is no stream
abbrev pub IsUnstreamed : Bytes → Bytes → Type 0
IsUnstreamed lines line = IsUnread lines line ⊎ IsUnwritten lines line
