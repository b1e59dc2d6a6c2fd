-- In what a file, by its bytes, is not as the first (docs/FORMAT.md, 2.9).
use Rattle.std.specs.Prelude.{◌≡◌, ℕ, ⊤, List, Option, Result, Ok, Err, String, string_bytes}
use Rattle.std.specs.Global.{Global}
use Rattle.arrow_values.specs.Tree.{Text}
use Rattle.column_files.specs.Files.{IsOpened}
use Rattle.column_files.specs.declared.columns.FileFault.{FileFault}
use Rattle.column_files.specs.declared.opening.File.{File}
use Rattle.column_reports.specs.FileReport.{IsReport}
use Rattle.column_reports.specs.Weights.{plain}
use Rattle.column_reports.specs.declared.file.FileReport.{FileReport}
use Rattle.column_reports.specs.declared.report.Options.{Options}
use Rattle.same_columns.specs.Lines.{unlike_lines}
use Rattle.same_columns.specs.Unlike.{AreUnlike, UnlikeOf}
use Rattle.same_columns.specs.declared.files.SameFault.{SameFault}
use Rattle.same_columns.specs.declared.files.SameFault.TheVariants.{First, Other, OutOfMemory}

-- the lines are those of what is found of a file that was opened, of which another is the first, by the reports of both
pub record AreLinesOf (file : Option Text) (o : Options) (first other : File) (lines : Text) : Type 0 where
  pub of_first : FileReport
  pub of_other : FileReport
  pub found : List UnlikeOf
  pub is_of_first : IsReport o.infer (plain o.notes) first of_first
  pub is_of_other : IsReport o.infer (plain o.notes) other of_other
  pub are_found : AreUnlike (plain o.notes) of_first.columns.items of_other.columns.items found
  pub are : lines ≡ unlike_lines file found

-- the first file is not read, for that fault; or it is read, and the other is not
abbrev pub IsFirstUnread : List ℕ → FileFault → Type 0
IsFirstUnread first fault = IsOpened first (Err fault)

abbrev pub IsOtherUnread : List ℕ → List ℕ → FileFault → Type 0
IsOtherUnread first other fault = (a : File) × IsOpened first (Ok a) × IsOpened other (Err fault)

-- what a call answers of the bytes of two files: the lines; or which file is not read, and why, the first before the other; or that memory is lacking
abbrev pub Compares : Option Text → Options → List ℕ → List ℕ → Result (String Global) SameFault → Type 0
Compares file o first other (Ok lines) =
    (a b : File) × IsOpened first (Ok a) × IsOpened other (Ok b) × AreLinesOf file o a b (string_bytes lines)
Compares file o first other (Err (First fault)) = IsFirstUnread first fault
Compares file o first other (Err (Other fault)) = IsOtherUnread first other fault
Compares file o first other (Err OutOfMemory) = ⊤
