-- How the columns of a source are not read.
use Rattle.std.specs.Prelude.{⊤}
use Rattle.line_reader.specs.declared.error.LineError.{LineError}
use Rattle.line_reader.specs.declared.error.LineError.TheVariants.{Input as OfInput, LongLine as OfLongLine, OutOfMemory as NoMemory}
use Rattle.column_files.specs.declared.columns.FileFault.TheVariants.{OutOfMemory}
use Rattle.column_files.specs.declared.fault.ReadFault.{ReadFault}
use Rattle.column_files.specs.declared.fault.ReadFault.TheVariants.{Input, LongLine, File}

-- the fault of a line that is not held
abbrev pub read_fault : LineError → ReadFault
read_fault (OfInput error) = Input error
read_fault (OfLongLine before) = LongLine before
read_fault NoMemory = File OutOfMemory

-- the source failed; or out of memory
abbrev pub IsReadError : ReadFault → Type 0
IsReadError (Input error) = ⊤
IsReadError (File OutOfMemory) = ⊤
IsReadError fault = ⊥
