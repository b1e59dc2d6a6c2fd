-- What is made of a file that has a schema, before it is printed.
use Rattle.std.specs.Prelude.{◌≡◌, ◌⊎◌, ℕ, ⊤, Bool, List, [], length, Result, Ok, Err, String, string_bytes}
use Rattle.std.specs.Global.{Global}
use Rattle.arrow_values.specs.Tree.{Text}
use Rattle.column_files.specs.Files.{IsEndOpened}
use Rattle.column_files.specs.declared.form.Form.{Form}
use Rattle.column_files.specs.declared.opening.File.{File}
use Rattle.column_files.specs.declared.columns.FileFault.{FileFault}
use Rattle.column_files.specs.declared.columns.FileFault.TheVariants.{ReportTooLarge, OutOfMemory}
use Rattle.column_reports.specs.FileReport.{IsReport, IsWithin, report_text}
use Rattle.column_reports.specs.declared.file.FileReport.{FileReport}
use Rattle.column_reports.specs.Weights.{Weighing, weighing}
use Rattle.parquet_columns.specs.Budget.{budget}
use Rattle.file_check.specs.Asked.{output_of}
use Rattle.file_check.specs.Names.{name_of}
use Rattle.file_check.specs.Wants.{AreFoundIn}
use Rattle.file_check.specs.declared.asked.Asked.{Asked}
use Rattle.file_check.specs.declared.asked.Output.{Output}
use Rattle.file_check.specs.declared.asked.Output.TheVariants.{Json, Errors, Table, Github, Sarif}
use Rattle.file_check.specs.declared.print.Made.{Made}

-- the lines of JSON of a report
abbrev pub json_text : Text → FileReport → Text
json_text file r = report_text (name_of file) r

abbrev pub IsPastTable : FileFault → Type 0
IsPastTable fault = (fault ≡ OutOfMemory) ⊎ (fault ≡ ReportTooLarge)

-- the text that is printed first: the lines of JSON within the limit; of a table and of lines of findings nothing is said but that they may be too large; else no text
abbrev pub IsTextOf : Output → Text → ℕ → FileReport → Result (String Global) FileFault → Type 0
IsTextOf Json file limit r result = IsWithin limit (json_text file r) result
IsTextOf Table file limit r (Ok text) = ⊤
IsTextOf Table file limit r (Err fault) = IsPastTable fault
IsTextOf Errors file limit r (Ok text) = ⊤
IsTextOf Errors file limit r (Err fault) = IsPastTable fault
IsTextOf Github file limit r (Ok text) = ⊤
IsTextOf Github file limit r (Err fault) = IsPastTable fault
IsTextOf Sarif file limit r (Ok text) = ⊤
IsTextOf Sarif file limit r (Err fault) = IsPastTable fault
IsTextOf output file limit r (Ok text) = string_bytes text ≡ []
IsTextOf output file limit r (Err fault) = fault ≡ OutOfMemory

abbrev pub MakesText : Asked → Text → ℕ → FileReport → Result (String Global) FileFault → Type 0
MakesText asked file limit r result = IsTextOf (output_of asked.flags) file limit r result

-- what is made of a report within a limit: that text, and what counts of it
pub record IsMade (asked : Asked) (file : Text) (limit : ℕ) (r : FileReport) (made : Made) : Type 0 where
  pub text : MakesText asked file limit r (Ok made.text)
  pub summary : made.counted.summary ≡ r.summary
  pub found : AreFoundIn asked.wants.items r.columns.items made.counted.found.items

-- what a call answers of a report; out of memory aside, only the text may be refused
abbrev pub MakesOf : Asked → Text → ℕ → FileReport → Result Made FileFault → Type 0
MakesOf asked file limit r (Ok made) = IsMade asked file limit r made
MakesOf asked file limit r (Err fault) = (fault ≡ OutOfMemory) ⊎ MakesText asked file limit r (Err fault)

-- the report of the file that the end of one in that format is, before which so many bytes stand, where types are inferred or not and that is asked of findings
pub record IsReportOfEnd (infer : Bool) (w : Weighing) (form : Form) (start : ℕ) (end : List ℕ) (r : FileReport) : Type 0 where
  pub opened : File
  pub is : IsEndOpened form start end (Ok opened)
  pub said : IsReport infer w opened r

-- what a call answers of such an end: what is made of the report within the budget of the bytes; or why the file is refused
abbrev pub MakesOpened : Asked → Text → Form → ℕ → List ℕ → Result Made FileFault → Type 0
MakesOpened asked file form start end result = (r : FileReport) × IsReportOfEnd asked.flags.infer (weighing asked.weights) form start end r × MakesOf asked file (budget (length end)) r result

abbrev pub MakesOfEnd : Asked → Text → Form → ℕ → List ℕ → Result Made FileFault → Type 0
MakesOfEnd asked file form start end (Ok made) = MakesOpened asked file form start end (Ok made)
MakesOfEnd asked file form start end (Err fault) = (fault ≡ OutOfMemory) ⊎ (IsEndOpened form start end (Err fault) ⊎ MakesOpened asked file form start end (Err fault))
