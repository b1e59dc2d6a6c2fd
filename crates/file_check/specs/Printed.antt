-- What is printed of a file, and the status.
use Rattle.std.specs.Prelude.{◌≡◌, ◌⊎◌, ◌++◌, ℕ, ⊤, List, Option, None, Ok, Err, codes, map, string_bytes}
use Rattle.std.specs.Io.KnownBytes.{Appends}
use Rattle.arrow_values.specs.Tree.{Text}
use Rattle.column_files.specs.Forms.{IsForm, head_bytes}
use Rattle.column_files.specs.Faults.{IsReadError}
use Rattle.column_files.specs.Reading.{GivesSchema, GivesEnd, IsEnd}
use Rattle.column_files.specs.Refusals.{Told, file_told, long_told}
use Rattle.line_reader.specs.Sources.{GivesUpTo}
use Rattle.column_files.specs.declared.columns.FileFault.{FileFault}
use Rattle.column_files.specs.declared.fault.ReadFault.{ReadFault}
use Rattle.column_files.specs.declared.fault.ReadFault.TheVariants.{Input, LongLine, File}
use Rattle.column_files.specs.declared.form.Form.{Form}
use Rattle.column_files.specs.declared.form.Form.TheVariants as forms
use Rattle.column_files.specs.declared.refusal.Place.TheVariants.{File as OfFile}
use Rattle.column_reports.specs.Faults.{fault_line}
use Rattle.column_reports.specs.FindingLines.{findings_text}
use Rattle.column_reports.specs.declared.asked.AskedFinding.{AskedFinding}
use Rattle.file_check.specs.Asked.{output_of}
use Rattle.file_check.specs.Counted.{status_of}
use Rattle.file_check.specs.Made.{MakesOfEnd}
use Rattle.file_check.specs.Names.{name_of}
use Rattle.file_check.specs.Unmet.{as_error, asked_view, unmet_of}
use Rattle.file_check.specs.declared.asked.Asked.{Asked}
use Rattle.file_check.specs.declared.asked.Output.{Output}
use Rattle.file_check.specs.declared.asked.Output.TheVariants.{Json, Errors, Table, Github, Sarif, Ipc}
use Rattle.file_check.specs.declared.print.Made.{Made}

-- ---- a file that is refused

-- the line of a fault, with its line feed
abbrev pub line_of_fault : Text → Told → Text
line_of_fault file t = fault_line (name_of file) 0 t ++ codes "\n"

-- what is said of a file stands on standard output too where its format has all that is said of a file; else nothing of it is printed there
abbrev pub Keeps : Output → Option (List ℕ) → Option (List ℕ) → Type 0
Keeps Table old new = ⊤
Keeps Errors old new = ⊤
Keeps Github old new = ⊤
Keeps Sarif old new = ⊤
Keeps output old new = new ≡ old

-- what is told of a file that the system does not give, in its words
abbrev pub unread_told : Text → Told
unread_told words = record {
  code = codes "CannotRead";
  place = OfFile;
  found = words;
  expected = codes "a file that can be read";
  help = None;
}

-- what is printed where a file is refused: with --json its fault
abbrev pub PrintsFault : Output → Text → Told → Option (List ℕ) → Option (List ℕ) → Type 0
PrintsFault Json file t old new = Appends old new (line_of_fault file t)
PrintsFault output file t old new = Keeps output old new

abbrev pub PrintsRefusal : Output → Text → Form → ReadFault → Option (List ℕ) → Option (List ℕ) → Type 0
PrintsRefusal output file form (Input error) old new = (words : Text) × PrintsFault output file (unread_told words) old new
PrintsRefusal output file form (LongLine before) old new = PrintsFault output file (long_told before) old new
PrintsRefusal output file form (File fault) old new = PrintsFault output file (file_told form fault) old new

-- ---- a file that is reported

-- a text is printed; of a log of SARIF, whose results have commas between them, nothing is said here
abbrev pub PrintsText : Output → List ℕ → Option (List ℕ) → Option (List ℕ) → Type 0
PrintsText Sarif text old new = ⊤
PrintsText output text old new = Appends old new text

-- with --json its text, and behind it the lines of what is asked and not met
pub record PrintsJson (asked : Asked) (file : Text) (made : Made) (old new : Option (List ℕ)) (status : ℕ) : Type 0 where
  pub unmet : List AskedFinding
  pub are_unmet : map asked_view unmet ≡ unmet_of asked made.counted
  pub prints : Appends old new (string_bytes made.text ++ findings_text (name_of file) (map as_error unmet))
  pub status_is : status ≡ status_of asked.flags made.counted

-- what is printed of what is made, and the status: of what is printed in another format nothing is said here; with --ipc the status is 2 where no message
-- holds the columns
abbrev pub Prints : Output → Asked → Text → Made → Option (List ℕ) → Option (List ℕ) → ℕ → Type 0
Prints Json asked file made old new status = PrintsJson asked file made old new status
Prints Ipc asked file made old new status = (status ≡ status_of asked.flags made.counted) ⊎ (status ≡ 2)
Prints output asked file made old new status = status ≡ status_of asked.flags made.counted

-- of the end of a file in that format, before which so many bytes stand: it is reported, or refused
pub record IsReported (asked : Asked) (file : Text) (form : Form) (start : ℕ) (end : List ℕ) (old new : Option (List ℕ)) (status : ℕ) : Type 0 where
  pub made : Made
  pub is : MakesOfEnd asked file form start end (Ok made)
  pub prints : Prints (output_of asked.flags) asked file made old new status

pub record IsRefused (asked : Asked) (file : Text) (form : Form) (start : ℕ) (end : List ℕ) (old new : Option (List ℕ)) (status : ℕ) : Type 0 where
  pub fault : FileFault
  pub is : MakesOfEnd asked file form start end (Err fault)
  pub prints : PrintsRefusal (output_of asked.flags) file form (File fault) old new
  pub status_is : status ≡ 2

abbrev pub IsAnswered : Asked → Text → Form → ℕ → List ℕ → Option (List ℕ) → Option (List ℕ) → ℕ → Type 0
IsAnswered asked file form start end old new status = IsReported asked file form start end old new status ⊎ IsRefused asked file form start end old new status

-- ---- a source

-- the source fails before the file is told or read: with --json nothing is printed but that memory is lacking
pub record IsUnread (asked : Asked) (file : Text) (form : Form) (old new : Option (List ℕ)) (status : ℕ) : Type 0 where
  pub fault : ReadFault
  pub is : IsReadError fault
  pub prints : PrintsRefusal (output_of asked.flags) file form fault old new
  pub status_is : status ≡ 2

-- behind the first bytes the source gives those that belong to the schema, and what both have is reported or refused
pub record IsRead (asked : Asked) (file : Text) (form : Form) (head : List ℕ) (rest old new : Option (List ℕ)) (status : ℕ) : Type 0 where
  pub more : List ℕ
  pub left : Option (List ℕ)
  pub gives : GivesSchema form head rest left more
  pub answered : IsAnswered asked file form 0 (head ++ more) old new status

-- a source with these first bytes, and the rest behind them: of lines nothing is said here
abbrev pub IsCheckedIn : Form → Asked → Text → List ℕ → Option (List ℕ) → Option (List ℕ) → Option (List ℕ) → ℕ → Type 0
IsCheckedIn forms.Lines asked file head rest old new status = ⊤
IsCheckedIn form asked file head rest old new status = IsUnread asked file form old new status ⊎ IsRead asked file form head rest old new status

abbrev pub IsCheckedFrom : Asked → Text → List ℕ → Option (List ℕ) → Option (List ℕ) → Option (List ℕ) → ℕ → Type 0
IsCheckedFrom asked file head rest old new status = (form : Form) × IsForm head form × IsCheckedIn form asked file head rest old new status

-- a source of these bytes, where they are known: its first bytes tell the format
pub record IsTold (asked : Asked) (file : Text) (bytes old new : Option (List ℕ)) (status : ℕ) : Type 0 where
  pub head : List ℕ
  pub rest : Option (List ℕ)
  pub gives : GivesUpTo head_bytes bytes rest head
  pub is : IsCheckedFrom asked file head rest old new status

abbrev pub IsChecked : Asked → Text → Option (List ℕ) → Option (List ℕ) → Option (List ℕ) → ℕ → Type 0
IsChecked asked file bytes old new status = IsUnread asked file forms.Lines old new status ⊎ IsTold asked file bytes old new status

-- ---- a source that may seek

-- the source gives the end of the file, before which so many bytes stand, and what it has is reported or refused
pub record IsEndRead (asked : Asked) (file : Text) (form : Form) (head : List ℕ) (rest old new : Option (List ℕ)) (status : ℕ) : Type 0 where
  pub start : ℕ
  pub end : List ℕ
  pub left : Option (List ℕ)
  pub gives : GivesEnd form head rest left end
  pub is : IsEnd form start end
  pub answered : IsAnswered asked file form start end old new status

abbrev pub IsFileIn : Form → Asked → Text → List ℕ → Option (List ℕ) → Option (List ℕ) → Option (List ℕ) → ℕ → Type 0
IsFileIn forms.Lines asked file head rest old new status = ⊤
IsFileIn form asked file head rest old new status = IsUnread asked file form old new status ⊎ IsEndRead asked file form head rest old new status

abbrev pub IsFileFrom : Asked → Text → List ℕ → Option (List ℕ) → Option (List ℕ) → Option (List ℕ) → ℕ → Type 0
IsFileFrom asked file head rest old new status = (form : Form) × IsForm head form × IsFileIn form asked file head rest old new status

pub record IsFileTold (asked : Asked) (file : Text) (bytes old new : Option (List ℕ)) (status : ℕ) : Type 0 where
  pub head : List ℕ
  pub rest : Option (List ℕ)
  pub gives : GivesUpTo head_bytes bytes rest head
  pub is : IsFileFrom asked file head rest old new status

abbrev pub IsFileChecked : Asked → Text → Option (List ℕ) → Option (List ℕ) → Option (List ℕ) → ℕ → Type 0
IsFileChecked asked file bytes old new status = IsUnread asked file forms.Lines old new status ⊎ IsFileTold asked file bytes old new status

-- ---- bytes that are all there

-- of lines nothing is said here
abbrev pub IsWholeIn : Form → Asked → Text → List ℕ → Option (List ℕ) → Option (List ℕ) → ℕ → Type 0
IsWholeIn forms.Lines asked file bytes old new status = ⊤
IsWholeIn form asked file bytes old new status = IsAnswered asked file form 0 bytes old new status

abbrev pub IsWhole : Asked → Text → List ℕ → Option (List ℕ) → Option (List ℕ) → ℕ → Type 0
IsWhole asked file bytes old new status = (form : Form) × IsForm bytes form × IsWholeIn form asked file bytes old new status
