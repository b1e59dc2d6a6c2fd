-- What a call leaves, by the text that stands for it.
use Rattle.std.proofs.Common.{◌≡◌, ℕ, List, [], String, length, map, Option, None, Ok, Err, Vec, Global, string_bytes, refl, sym, subst}
use Rattle.arrow_values.specs.Tree.{Text}
use Rattle.arrow_values.specs.View.{texts_of}
use Rattle.arrow_columns.specs.Column.{column_tree}
use Rattle.arrow_columns.specs.Types.{ColumnTree}
use Rattle.arrow_columns.specs.declared.column.SchemaColumn.{SchemaColumn}
use Rattle.arrow_ipc.specs.Schema.{SchemaTree}
use Rattle.arrow_ipc.specs.Denotes.{IsStreamOf}
use Rattle.arrow_ipc.specs.Rooms.{schema_room}
use Rattle.arrow_ipc.specs.Writes.{RefusesColumns}
use Rattle.arrow_ipc.specs.declared.schema.Endianness.TheVariants.{Little}
use Rattle.arrow_ipc.specs.declared.write.WriteError.{WriteError}
use Rattle.column_files.specs.Files.{AreLinesRead, IsOpened}
use Rattle.column_files.specs.Forms.{IsForm}
use Rattle.column_files.specs.declared.columns.FileFault.{FileFault}
use Rattle.column_files.specs.declared.form.Form.{Form}
use Rattle.column_reports.specs.FileReport.{Reports}
use Rattle.column_reports.specs.declared.report.Options.{Options}
use Rattle.geoarrow_fields.specs.Lines.{Bytes}
use Rattle.geoarrow_c.specs.Buffer.{Makes}
use Rattle.record_columns.specs.Columns.{columns_at}
use Rattle.record_writer.specs.Writes.{RefusesColumns as RefusesRecords}
use Rattle.record_writer.specs.declared.error.WriteError as records
use Rattle.geoarrow_c.specs.Refusals.{IsLineOfFile, IsLineOfSchema, IsUnopened}
use Rattle.geoarrow_c.specs.Reports.{options_number, name_if, IsReport, IsRefusal}
use Rattle.geoarrow_c.specs.SchemaRecords.{AreRecords, AreUnrecorded, IsLineOfRecords}
use Rattle.geoarrow_c.specs.Streams.{IsStream, IsUnwritten}

-- a text that was filled in was made
pub makes : {P Done : Bytes → Type 0} {len : ℕ} (filled : Bytes) → length filled ≡ len → P filled → Done filled → Makes P len Done
makes filled len_is is done = record { text = filled; is = is; len_is = len_is; done = done }

-- of it holds what follows
pub makes_as : {P Q Done : Bytes → Type 0} {len : ℕ} → ((text : Bytes) → P text → Q text) → Makes P len Done → Makes Q len Done
makes_as follows made = record { text = made.text; is = follows made.text made.is; len_is = made.len_is; done = made.done }

-- the lines of a report
pub is_report : {number : ℕ} {name bytes lines : Bytes} {file : Option Text} {options : Options} (report : String Global) → number ≡ options_number options → file ≡ name_if name
    → Reports file options bytes (Ok report) → lines ≡ string_bytes report → IsReport number name bytes lines
is_report {bytes = bytes} {options = options} report number_is named reports is = record {
  options = options;
  report = report;
  number_is = number_is;
  reports = subst (λ file. Reports file options bytes (Ok report)) named reports;
  is = is;
}

-- the line of a refused file
pub is_refusal : {number : ℕ} {name bytes line : Bytes} {file : Option Text} {options : Options} {form : Form} {fault : FileFault} → number ≡ options_number options
    → file ≡ name_if name → IsForm bytes form → Reports file options bytes (Err fault) → IsLineOfFile file form fault line → IsRefusal number name bytes line
is_refusal {bytes = bytes} {line = line} {options = options} {form = form} {fault = fault} number_is named has_form reports is = record {
  options = options;
  form = form;
  fault = fault;
  number_is = number_is;
  has_form = has_form;
  reports = subst (λ file. Reports file options bytes (Err fault)) named reports;
  is = subst (λ file. IsLineOfFile file form fault line) named is;
}

-- the schema of columns with these entries, of the byte order of little-endian
abbrev pub of_entries : List ColumnTree → List (String Global × String Global) → SchemaTree
of_entries columns entries = record { columns = columns; metadata = texts_of entries; endianness = Little }

-- the line of a file that is not read
pub is_unopened : {bytes line : Bytes} {form : Form} {fault : FileFault} → IsForm bytes form → IsOpened bytes (Err fault) → IsLineOfFile None form fault line → IsUnopened bytes line
is_unopened {form = form} {fault = fault} has_form unread is = record { form = form; fault = fault; has_form = has_form; unread = unread; is = is }

-- the stream of lines
pub is_stream : {lines stream written : Bytes} (columns : Vec SchemaColumn Global) (entries : List (String Global × String Global)) → AreLinesRead lines (Ok columns) → entries ≡ []
    → IsStreamOf 61 written (of_entries (map column_tree columns.items) entries) → stream ≡ written → IsStream lines stream
is_stream {written = written} columns entries read none is same = record {
  columns = map column_tree columns.items;
  denoted = (columns, read, refl);
  is = subst (λ b. IsStreamOf 61 b (of_entries (map column_tree columns.items) [])) (sym same)
      (subst (λ es. IsStreamOf 61 written (of_entries (map column_tree columns.items) es)) none is);
}

-- the line of lines that no message can hold
pub is_unwritten : {lines line : Bytes} {error : WriteError} (columns : Vec SchemaColumn Global) (entries : List (String Global × String Global)) → AreLinesRead lines (Ok columns) → entries ≡ []
    → RefusesColumns 61 error (map column_tree columns.items) (schema_room (of_entries (map column_tree columns.items) entries)) → IsLineOfSchema None error line → IsUnwritten lines line
is_unwritten {error = error} columns entries read none refused is = record {
  columns = map column_tree columns.items;
  error = error;
  denoted = (columns, read, refl);
  refused = subst (λ es. RefusesColumns 61 error (map column_tree columns.items) (schema_room (of_entries (map column_tree columns.items) es))) none refused;
  is = is;
}

-- the records of lines, whose columns are lent
pub are_records : {lines text written : Bytes} {given : List SchemaColumn} (columns : Vec SchemaColumn Global) → AreLinesRead lines (Ok columns) → given ≡ columns.items
    → columns_at written ≡ Ok (map column_tree given) → text ≡ written → AreRecords lines text
are_records {written = written} columns read lent denotes same = record {
  columns = map column_tree columns.items;
  denoted = (columns, read, refl);
  are = subst (λ b. columns_at b ≡ Ok (map column_tree columns.items)) (sym same) (subst (λ cs. columns_at written ≡ Ok (map column_tree cs)) lent denotes);
}

-- the line of lines whose columns no structures can have
pub are_unrecorded : {lines line : Bytes} {given : List SchemaColumn} (error : records.WriteError) (columns : Vec SchemaColumn Global) → AreLinesRead lines (Ok columns)
    → given ≡ columns.items → RefusesRecords error 1 48 1 (map column_tree given) → IsLineOfRecords error line → AreUnrecorded lines line
are_unrecorded error columns read lent refused is = record {
  columns = map column_tree columns.items;
  error = error;
  denoted = (columns, read, refl);
  refused = subst (λ cs. RefusesRecords error 1 48 1 (map column_tree cs)) lent refused;
  is = is;
}
