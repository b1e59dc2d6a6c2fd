-- What the call that reports a file means by its options and by its name, and what it writes.
use Rattle.std.specs.Prelude.{◌≡◌, ℕ, ◌+◌, [], ◌∷◌, Option, None, Some, Ok, Err, String, string_bytes, if◌then◌else◌}
use Rattle.std.specs.Global.{Global}
use Rattle.arrow_values.specs.Tree.{Text}
use Rattle.column_files.specs.Forms.{IsForm}
use Rattle.column_files.specs.declared.columns.FileFault.{FileFault}
use Rattle.column_files.specs.declared.form.Form.{Form}
use Rattle.column_reports.specs.FileReport.{Reports}
use Rattle.column_reports.specs.declared.report.Options.{Options}
use Rattle.geoarrow_fields.specs.Lines.{Bytes}
use Rattle.geoarrow_c.specs.Refusals.{IsLineOfFile}

-- the number of the options: 1 where types are inferred, and 2 for the notes
abbrev pub options_number : Options → ℕ
options_number o = (if o.infer then 1 else 0) + (if o.notes then 2 else 0)

-- the name of a file, if it has one
abbrev pub name_if : Bytes → Option Text
name_if [] = None
name_if (b ∷ bs) = Some (b ∷ bs)

-- the lines are the report of a file of that name under the options of the number
pub record IsReport (number : ℕ) (name bytes lines : Bytes) : Type 0 where
  pub options : Options
  pub report : String Global
  pub number_is : number ≡ options_number options
  pub reports : Reports (name_if name) options bytes (Ok report)
  pub is : lines ≡ string_bytes report

-- the line says why a file of that name has no report under the options of the number
pub record IsRefusal (number : ℕ) (name bytes line : Bytes) : Type 0 where
  pub options : Options
  pub form : Form
  pub fault : FileFault
  pub number_is : number ≡ options_number options
  pub has_form : IsForm bytes form
  pub reports : Reports (name_if name) options bytes (Err fault)
  pub is : IsLineOfFile (name_if name) form fault line
