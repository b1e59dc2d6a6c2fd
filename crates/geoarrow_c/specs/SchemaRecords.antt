-- The schema of lines as records (docs/FORMAT.md, 2.7, 2.8 and 6).
use Rattle.std.specs.Prelude.{◌≡◌, ◌⊎◌, List, [], Option, None, Some, Ok, codes}
use Rattle.arrow_columns.specs.Types.{ColumnTree}
use Rattle.arrow_values.specs.Tree.{Text}
use Rattle.column_files.specs.Refusals.{Told}
use Rattle.column_files.specs.declared.refusal.Place.{Place}
use Rattle.column_files.specs.declared.refusal.Place.TheVariants.{File, Column}
use Rattle.geoarrow_fields.specs.Lines.{Bytes}
use Rattle.record_columns.specs.Columns.{columns_at}
use Rattle.record_writer.specs.Writes.{RefusesColumns}
use Rattle.record_writer.specs.declared.error.WriteError.{WriteError}
use Rattle.record_writer.specs.declared.error.WriteError.TheVariants as errors
use Rattle.geoarrow_c.specs.Refusals.{line_of}
use Rattle.geoarrow_c.specs.Streams.{AreOf, IsUnread}
use Rattle.geoarrow_c.specs.Walks.{walk_message, walk_wanted}
use Rattle.geoarrow_c.specs.declared.walk.WalkRule.TheVariants as rules

abbrev pub unwritten_message : WriteError → Text
unwritten_message (errors.Column i) = codes "a type that no format string says"
unwritten_message (errors.Nul i) = codes "a name with a byte 0"
unwritten_message (errors.TooDeep i) = walk_message rules.Depth
unwritten_message errors.TooLarge = walk_message rules.Size
unwritten_message errors.OutOfMemory = []

abbrev pub unwritten_wanted : WriteError → Text
unwritten_wanted (errors.Column i) = codes "a type of Arrow's C data interface"
unwritten_wanted (errors.Nul i) = codes "names without one, at which they would end"
unwritten_wanted (errors.TooDeep i) = walk_wanted rules.Depth
unwritten_wanted errors.TooLarge = walk_wanted rules.Size
unwritten_wanted errors.OutOfMemory = []

abbrev pub unwritten_at : WriteError → Place → Told
unwritten_at error place = record {
  code = codes "BadSchema";
  place = place;
  found = unwritten_message error;
  expected = unwritten_wanted error;
  help = None;
}

-- why a schema has no structures; nothing where memory is all that lacks
abbrev pub unwritten_told : WriteError → Option Told
unwritten_told (errors.Column i) = Some (unwritten_at (errors.Column i) (Column i))
unwritten_told (errors.Nul i) = Some (unwritten_at (errors.Nul i) (Column i))
unwritten_told (errors.TooDeep i) = Some (unwritten_at (errors.TooDeep i) (Column i))
unwritten_told errors.TooLarge = Some (unwritten_at errors.TooLarge File)
unwritten_told errors.OutOfMemory = None

-- the line says so
pub record IsLineOf (told : Option Told) (line : Bytes) : Type 0 where
  pub one : Told
  pub is_told : told ≡ Some one
  pub is : line ≡ line_of None one

abbrev pub IsLineOfRecords : WriteError → Bytes → Type 0
IsLineOfRecords error line = IsLineOf (unwritten_told error) line

-- the records are those of a schema of the columns that the lines denote
pub record AreRecords (lines records : Bytes) : Type 0 where
  pub columns : List ColumnTree
  pub denoted : AreOf lines columns
  pub are : columns_at records ≡ Ok columns

-- the line says why no structures can have the columns that the lines denote
pub record AreUnrecorded (lines line : Bytes) : Type 0 where
  pub columns : List ColumnTree
  pub error : WriteError
  pub denoted : AreOf lines columns
  pub refused : RefusesColumns error 1 48 1 columns
  pub is : IsLineOfRecords error line

-- the line says why there are no records
abbrev pub AreNoRecords : Bytes → Bytes → Type 0
AreNoRecords lines line = IsUnread lines line ⊎ AreUnrecorded lines line
