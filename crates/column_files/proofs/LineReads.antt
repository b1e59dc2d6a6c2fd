-- What is read of a line, by its value.
use Rattle.std.proofs.Common.{◌≡◌, ◌↔◌, if◌then◌else◌, Option, Some, None, option_and_then, sym, ap, ◌∙◌}
use Rattle.std.specs.Str.{IsUtf8}
use Rattle.std.proofs.lemmas.Str.{is_utf8-from_IsUtf8}
use Rattle.std.proofs.lemmas.Option.{none-some}
use Rattle.serde_json.specs.Data.{Data}
use Rattle.serde_json.specs.Read.{read}
use Rattle.arrow_values.specs.Tree.{Text, FieldTree}
use Rattle.arrow_columns.specs.Column.{column_of}
use Rattle.field_lines.specs.FieldOfValue.{field_of_value}
use Rattle.field_lines.specs.Line.{field_of_line}
use Rattle.field_lines.specs.ColumnOfValue.{column_of_value, value_of_line, column_of_line}
use Rattle.column_files.specs.LineFaults.{IsValueFault, IsLineFault, IsJsonFault}
use Rattle.column_files.specs.declared.line.LineFault.{LineFault}
use Rattle.column_files.specs.declared.line.LineFault.TheVariants.{NotUtf8, NotJson, OpenObject, OpenArray, NotObject, GeoJson, Name, Nullable, Metadata, TypeUnknown}

-- the value of UTF-8
pub value_is : (line : Text) → IsUtf8 line → value_of_line line ≡ read line
value_is line utf8 = ap (λ b. if b then read line else None) (is_utf8-from_IsUtf8 line utf8)

-- a value that is read of a line which denotes no column denotes none
pub no_column : (line : Text) (d : Data) → column_of_line line ≡ None → IsUtf8 line → read line ≡ Some d → column_of_value d ≡ None
no_column line d none utf8 is = sym (ap (option_and_then column_of_value) (value_is line utf8 ∙ is)) ∙ none

-- why the value denotes none is why the line does
pub line_fault_of : (line : Text) (d : Data) (fault : LineFault) → IsUtf8 line → read line ≡ Some d → IsValueFault d fault → IsLineFault line fault
line_fault_of line d (NotUtf8 at) utf8 is this = absurd this.2
line_fault_of line d (NotJson at) utf8 is this = absurd this.2
line_fault_of line d (OpenObject at) utf8 is this = absurd this.2
line_fault_of line d (OpenArray at) utf8 is this = absurd this.2
line_fault_of line d NotObject utf8 is this = (d, value_is line utf8 ∙ is, this)
line_fault_of line d (GeoJson named) utf8 is this = (d, value_is line utf8 ∙ is, this)
line_fault_of line d Name utf8 is this = (d, value_is line utf8 ∙ is, this)
line_fault_of line d Nullable utf8 is this = (d, value_is line utf8 ∙ is, this)
line_fault_of line d Metadata utf8 is this = (d, value_is line utf8 ∙ is, this)
line_fault_of line d TypeUnknown utf8 is this = (d, value_is line utf8 ∙ is, this)

-- why it is no JSON is why the line denotes none
pub json_fault_of : (line : Text) (fault : LineFault) → IsJsonFault line fault → IsUtf8 line → read line ≡ None → IsLineFault line fault
json_fault_of line (NotJson at) this utf8 none = (utf8, none, this)
json_fault_of line (OpenObject at) this utf8 none = (utf8, none, this)
json_fault_of line (OpenArray at) this utf8 none = (utf8, none, this)
json_fault_of line (NotUtf8 at) this utf8 none = absurd this
json_fault_of line NotObject this utf8 none = absurd this
json_fault_of line (GeoJson named) this utf8 none = absurd this
json_fault_of line Name this utf8 none = absurd this
json_fault_of line Nullable this utf8 none = absurd this
json_fault_of line Metadata this utf8 none = absurd this
json_fault_of line TypeUnknown this utf8 none = absurd this

-- a line that denotes a field denotes its column
abbrev pub FieldIsColumn : Type 0
FieldIsColumn = (d : Data) (f : FieldTree) → (field_of_value d ≡ Some f) ↔ (column_of_value d ≡ Some (column_of f))

by_value : FieldIsColumn → (o : Option Data) (f : FieldTree) → option_and_then field_of_value o ≡ Some f → option_and_then column_of_value o ≡ Some (column_of f)
by_value law (Some d) f is = (law d f).0 is
by_value law None f is = absurd (none-some f is)

pub field_column : FieldIsColumn → (line : Text) (f : FieldTree) → field_of_line line ≡ Some f → column_of_line line ≡ Some (column_of f)
field_column law line f is = by_value law (value_of_line line) f is
