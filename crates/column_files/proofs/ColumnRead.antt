-- The line of a column is read back.
use Rattle.std.proofs.Common.{◌≡◌, ◌≤◌, Bool, Some, IfOk, Result, Ok, Err, String, Global, option_and_then, string_bytes, ap, ◌∙◌}
use Rattle.std.proofs.lemmas.Str.{IsUtf8-string_bytes}
use Rattle.serde_json.specs.Data.{depth}
use Rattle.serde_json.specs.Read.{read, max_depth}
use Rattle.arrow_values.specs.Tree.{Text, Metadata, FieldTree}
use Rattle.arrow_columns.specs.Column.{column_of}
use Rattle.arrow_columns.specs.Types.{ColumnTree}
use Rattle.field_lines.specs.Line.{field_of_line, value_of_field, other_value}
use Rattle.field_lines.specs.LineForm.{HasLineForm}
use Rattle.field_lines.specs.ColumnOfValue.{column_of_value, column_of_line}
use Rattle.column_files.specs.ColumnLines.{FitsLine}
use Rattle.column_files.proofs.LineReads.{FieldIsColumn, value_is, field_column}

pub other_line_read : {E : Type 0} (n t : Text) (b : Bool) (m : Metadata) (c : ColumnTree) (P : Type 0) → (P → column_of_value (other_value n t b m) ≡ Some c)
    → (r : Result (String Global) E) → IfOk r (λ s. read (string_bytes s) ≡ Some (other_value n t b m)) → IfOk r (λ s. P → column_of_line (string_bytes s) ≡ Some c)
other_line_read n t b m c P law (Ok s) is = λ fits. ap (option_and_then column_of_value) (value_is (string_bytes s) (IsUtf8-string_bytes s) ∙ is) ∙ law fits
other_line_read n t b m c P law (Err e) is = tt

pub field_line_read : {E : Type 0} → FieldIsColumn → (f : FieldTree) → (r : Result (String Global) E)
    → IfOk r (λ s. HasLineForm f.tree → depth (value_of_field f) ≤ max_depth → field_of_line (string_bytes s) ≡ Some f)
    → IfOk r (λ s. FitsLine (column_of f) → column_of_line (string_bytes s) ≡ Some (column_of f))
field_line_read law f (Ok s) is = λ fits. field_column law (string_bytes s) f (is fits.0 fits.1)
field_line_read law f (Err e) is = tt
