-- What the call that compares two files writes.
use Rattle.std.specs.Prelude.{◌≡◌, ◌⊎◌, ℕ, Ok, String, string_bytes}
use Rattle.std.specs.Global.{Global}
use Rattle.column_files.specs.Forms.{IsForm}
use Rattle.column_files.specs.declared.columns.FileFault.{FileFault}
use Rattle.column_files.specs.declared.form.Form.{Form}
use Rattle.column_reports.specs.declared.report.Options.{Options}
use Rattle.geoarrow_fields.specs.Lines.{Bytes}
use Rattle.same_columns.specs.Files.{Compares, IsOtherUnread}
use Rattle.geoarrow_c.specs.Refusals.{IsLineOfFile, IsUnopened}
use Rattle.geoarrow_c.specs.Reports.{options_number, name_if}

-- the lines are in what a file of that name is not as the first, under the options of the number
pub record AreDifferences (number : ℕ) (name first other lines : Bytes) : Type 0 where
  pub options : Options
  pub found : String Global
  pub number_is : number ≡ options_number options
  pub compares : Compares (name_if name) options first other (Ok found)
  pub are : lines ≡ string_bytes found

-- the line says why the first file is refused; it gives it no name
abbrev pub IsFirstRefused : Bytes → Bytes → Type 0
IsFirstRefused first line = IsUnopened first line

-- the line says why the other file, of that name, is refused, where the first is read
pub record IsOtherRefused (name first other line : Bytes) : Type 0 where
  pub form : Form
  pub fault : FileFault
  pub has_form : IsForm other form
  pub unread : IsOtherUnread first other fault
  pub is : IsLineOfFile (name_if name) form fault line

-- the line says why they are not compared
abbrev pub IsUncompared : Bytes → Bytes → Bytes → Bytes → Type 0
IsUncompared name first other line = IsFirstRefused first line ⊎ IsOtherRefused name first other line
