-- What the call that compares two files writes, by what the comparison answers.
use Rattle.std.proofs.Common.{◌≡◌, ℕ, String, Option, Ok, Global, string_bytes, subst}
use Rattle.arrow_values.specs.Tree.{Text}
use Rattle.column_files.specs.Forms.{IsForm}
use Rattle.column_files.specs.declared.columns.FileFault.{FileFault}
use Rattle.column_files.specs.declared.form.Form.{Form}
use Rattle.column_reports.specs.declared.report.Options.{Options}
use Rattle.geoarrow_fields.specs.Lines.{Bytes}
use Rattle.same_columns.specs.Files.{Compares, IsOtherUnread}
use Rattle.geoarrow_c.specs.Refusals.{IsLineOfFile}
use Rattle.geoarrow_c.specs.Reports.{options_number, name_if}
use Rattle.geoarrow_c.specs.Same.{AreDifferences, IsOtherRefused}

-- the lines of differences
pub are_differences : {number : ℕ} {name first other lines : Bytes} {file : Option Text} {options : Options} (found : String Global) → number ≡ options_number options → file ≡ name_if name
    → Compares file options first other (Ok found) → lines ≡ string_bytes found → AreDifferences number name first other lines
are_differences {first = first} {other = other} {options = options} found number_is named compares are = record {
  options = options;
  found = found;
  number_is = number_is;
  compares = subst (λ file. Compares file options first other (Ok found)) named compares;
  are = are;
}

-- the line of the other file, where it is refused
pub is_other_refused : {name first other line : Bytes} {file : Option Text} {form : Form} {fault : FileFault} → file ≡ name_if name → IsForm other form → IsOtherUnread first other fault
    → IsLineOfFile file form fault line → IsOtherRefused name first other line
is_other_refused {line = line} {form = form} {fault = fault} named has_form unread is = record {
  form = form;
  fault = fault;
  has_form = has_form;
  unread = unread;
  is = subst (λ file. IsLineOfFile file form fault line) named is;
}
