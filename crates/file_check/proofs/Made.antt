-- What is made of a file, from what is made of its report; and what is printed of it.
use Rattle.std.proofs.Common.{ℕ, List, length, Option, Result, Ok, Err, IfOk, inl, inr}
use Rattle.arrow_values.specs.Tree.{Text}
use Rattle.column_files.specs.Forms.{IsForm}
use Rattle.column_files.specs.declared.form.Form.{Form}
use Rattle.column_files.specs.declared.form.Form.TheVariants.{Lines as FormLines}
use Rattle.column_files.specs.declared.columns.FileFault.{FileFault}
use Rattle.column_reports.specs.declared.file.FileReport.{FileReport}
use Rattle.parquet_columns.specs.Budget.{budget}
use Rattle.column_reports.specs.Weights.{weighing}
use Rattle.file_check.specs.Asked.{output_of}
use Rattle.file_check.specs.Made.{IsReportOfEnd, MakesOf, MakesOfEnd}
use Rattle.file_check.specs.Printed.{Prints, IsAnswered, IsCheckedFrom, IsFileFrom, IsWhole}
use Rattle.file_check.specs.declared.asked.Asked.{Asked}
use Rattle.file_check.specs.declared.print.Made.{Made}

module _ (asked : Asked) (file : Text) where
  -- of the report of the file
  pub whole : (form : Form) (start : ℕ) (end : List ℕ) (r : FileReport) (result : Result Made FileFault) → IsReportOfEnd asked.flags.infer (weighing asked.weights) form start end r
      → MakesOf asked file (budget (length end)) r result → MakesOfEnd asked file form start end result
  whole form start end r (Ok made) is makes = (r, is, makes)
  whole form start end r (Err fault) is makes = inr (inr (r, is, makes))

  -- it is printed
  pub reported : {E : Type 0} (form : Form) (start : ℕ) (end : List ℕ) (old new : Option (List ℕ)) (made : Made) (r : Result ℕ E) → MakesOfEnd asked file form start end (Ok made)
      → IfOk r (Prints (output_of asked.flags) asked file made old new) → IfOk r (IsAnswered asked file form start end old new)
  reported form start end old new made (Ok status) is prints = inl (record { made = made; is = is; prints = prints })
  reported form start end old new made (Err error) is prints = prints

-- of lines nothing is said
module _ {E : Type 0} (asked : Asked) (file : Text) (head : List ℕ) where
  pub of_lines : (rest old new : Option (List ℕ)) (r : Result ℕ E) → IsForm head FormLines → IfOk r (IsCheckedFrom asked file head rest old new)
  of_lines rest old new (Ok status) is = (FormLines, is, tt)
  of_lines rest old new (Err error) is = tt

  pub of_file_lines : (rest old new : Option (List ℕ)) (r : Result ℕ E) → IsForm head FormLines → IfOk r (IsFileFrom asked file head rest old new)
  of_file_lines rest old new (Ok status) is = (FormLines, is, tt)
  of_file_lines rest old new (Err error) is = tt

  pub of_whole_lines : (old new : Option (List ℕ)) (r : Result ℕ E) → IsForm head FormLines → IfOk r (IsWhole asked file head old new)
  of_whole_lines old new (Ok status) is = (FormLines, is, tt)
  of_whole_lines old new (Err error) is = tt
