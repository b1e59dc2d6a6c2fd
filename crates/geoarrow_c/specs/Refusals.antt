-- Why bytes are refused, as a line (docs/FORMAT.md, 2.8).
use Rattle.std.specs.Prelude.{◌≡◌, ◌≢◌, ◌++◌, Bool, true, false, Option, None, Err, codes}
use Rattle.arrow_values.specs.Tree.{Text}
use Rattle.arrow_ipc.specs.declared.fault.IpcError.{IpcError}
use Rattle.arrow_ipc.specs.declared.fault.IpcError.TheVariants as messages
use Rattle.arrow_ipc.specs.declared.write.WriteError.{WriteError}
use Rattle.arrow_ipc.specs.declared.write.WriteError.TheVariants as writes
use Rattle.column_files.specs.Files.{IsOpened}
use Rattle.column_files.specs.Forms.{IsForm}
use Rattle.column_files.specs.Refusals.{Told, file_told, write_told}
use Rattle.column_files.specs.declared.columns.FileFault.{FileFault}
use Rattle.column_files.specs.declared.columns.FileFault.TheVariants as files
use Rattle.column_files.specs.declared.form.Form.{Form}
use Rattle.column_reports.specs.Faults.{fault_line}
use Rattle.geoarrow_fields.specs.Lines.{Bytes}

-- whether memory is all that lacks
abbrev pub lacks_memory_for_message : IpcError → Bool
lacks_memory_for_message messages.OutOfMemory = true
lacks_memory_for_message error = false

abbrev pub lacks_memory : FileFault → Bool
lacks_memory files.OutOfMemory = true
lacks_memory (files.Ipc error) = lacks_memory_for_message error
lacks_memory fault = false

-- the line of a fault, with the name of the file, if there is one, and with its line feed
abbrev pub line_of : Option Text → Told → Bytes
line_of file t = fault_line file 0 t ++ codes "\n"

-- the line says why a file of that name and format is refused, not for lack of memory
pub record IsLineOfFile (file : Option Text) (form : Form) (fault : FileFault) (line : Bytes) : Type 0 where
  pub has_memory : lacks_memory fault ≡ false
  pub is : line ≡ line_of file (file_told form fault)

-- the line says why the file of these bytes is not read; it gives it no name
pub record IsUnopened (bytes line : Bytes) : Type 0 where
  pub form : Form
  pub fault : FileFault
  pub has_form : IsForm bytes form
  pub unread : IsOpened bytes (Err fault)
  pub is : IsLineOfFile None form fault line

-- the line says why a schema is not written, not for lack of memory
pub record IsLineOfSchema (file : Option Text) (error : WriteError) (line : Bytes) : Type 0 where
  pub has_memory : error ≢ writes.OutOfMemory
  pub is : line ≡ line_of file (write_told error)
