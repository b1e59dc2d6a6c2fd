-- How much a finding counts, by what is asked of codes, of warnings and of notes (docs/FORMAT.md, 2.7).
use Rattle.std.specs.Prelude.{Bool, bytes_eq, List, [], ◌∷◌, map, Option, None, Some, string_bytes, if◌then◌else◌}
use Rattle.arrow_values.specs.Tree.{Text}
use Rattle.column_check.specs.declared.code.Severity.{Severity}
use Rattle.column_check.specs.declared.code.Severity.TheVariants.{Error, Warning, Note}
use Rattle.column_reports.specs.declared.weights.CodeWeight.{CodeWeight}
use Rattle.column_reports.specs.declared.weights.Weight.{Weight}
use Rattle.column_reports.specs.declared.weights.Weight.TheVariants.{Allow, Deny}
use Rattle.column_reports.specs.declared.weights.Weights.{Weights}

-- what is asked: whether notes are shown, and what is asked of all warnings and of codes
pub record Weighing : Type 0 where
  pub notes : Bool
  pub warnings : Option Weight
  pub by_code : List (Text × Weight)

abbrev pub code_weight : CodeWeight → Text × Weight
code_weight w = (string_bytes w.code, w.weight)

abbrev pub weighing : Weights → Weighing
weighing w = record { notes = w.notes; warnings = w.warnings; by_code = map code_weight w.codes.items }

-- nothing but whether notes are shown
abbrev pub plain : Bool → Weighing
plain notes = record { notes = notes; warnings = None; by_code = [] }

-- what is asked of a code: the first that is asked of it, if something is
abbrev pub weight_in : List (Text × Weight) → Text → Option Weight
weight_in [] code = None
weight_in (w ∷ ws) code = if bytes_eq w.0 code then Some w.1 else weight_in ws code

-- what is denied counts as an error; what is allowed is not shown and does not count; where nothing is asked, it counts as it does otherwise
abbrev pub counted : Option Weight → Option Severity → Option Severity
counted (Some Deny) otherwise = Some Error
counted (Some Allow) otherwise = None
counted None otherwise = otherwise

-- where nothing is asked of the code: an error counts, a warning by what is asked of warnings, and a note is shown where notes are asked for
abbrev pub counted_by_group : Weighing → Severity → Option Severity
counted_by_group w Error = Some Error
counted_by_group w Warning = counted w.warnings (Some Warning)
counted_by_group w Note = if w.notes then Some Note else None

-- how much a finding of that code, which has that severity, counts; none where it is not shown and does not count
abbrev pub counts_as : Weighing → Text → Severity → Option Severity
counts_as w code severity = counted (weight_in w.by_code code) (counted_by_group w severity)
