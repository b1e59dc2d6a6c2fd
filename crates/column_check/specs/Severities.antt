-- How much a finding weighs (docs/FORMAT.md, 2.6).
use Rattle.std.specs.Prelude.{codes, Bool, true, false}
use Rattle.arrow_values.specs.Tree.{Text}
use Rattle.column_check.specs.declared.code.Severity.{Severity}
use Rattle.column_check.specs.declared.code.Severity.TheVariants.{Error, Warning, Note}

-- the word of a severity
abbrev pub severity_text : Severity → Text
severity_text Error = codes "error"
severity_text Warning = codes "warning"
severity_text Note = codes "note"

-- it is that of an error
abbrev pub is_error_of : Severity → Bool
is_error_of Error = true
is_error_of Warning = false
is_error_of Note = false

-- it is that of a note
abbrev pub is_note_of : Severity → Bool
is_note_of Error = false
is_note_of Warning = false
is_note_of Note = true
