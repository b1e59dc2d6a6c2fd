-- What is asked of a file and not met, as findings (docs/FORMAT.md, 2.7).
use Rattle.std.specs.Prelude.{◌==◌, ◌&&◌, ◌++◌, not, ℕ, Bool, true, false, List, [], ◌∷◌, codes, decimal, flat_map, Option, None, Some, option_map, string_bytes, if◌then◌else◌}
use Rattle.std.specs.List.{zip}
use Rattle.arrow_values.specs.Tree.{Text}
use Rattle.column_check.specs.declared.code.Severity.TheVariants.{Error}
use Rattle.column_reports.specs.Asked.{expected_of, help_of as code_help}
use Rattle.column_reports.specs.declared.asked.AskedCode.{AskedCode}
use Rattle.column_reports.specs.declared.asked.AskedCode.TheVariants.{Expect, NoGeometry}
use Rattle.column_reports.specs.declared.asked.AskedFinding.{AskedFinding}
use Rattle.column_reports.specs.declared.finding.Finding.TheVariants as of
use Rattle.column_reports.specs.declared.weighed.Weighed.{Weighed}
use Rattle.file_check.specs.declared.asked.Asked.{Asked}
use Rattle.file_check.specs.declared.asked.Want.{Want}
use Rattle.file_check.specs.declared.counted.Counted.{Counted}
use Rattle.file_check.specs.declared.wants.Found.{Found}
use Rattle.file_check.specs.declared.wants.Found.TheVariants.{NoColumn, Looked}
use Rattle.file_check.specs.declared.wants.Near.{Near}
use Rattle.file_check.specs.declared.wants.Unlike.{Unlike}

-- a finding by its texts
pub record AskedOf : Type 0 where
  pub code : AskedCode
  pub column : Option Text
  pub found : Option Text
  pub expected : Text
  pub help : Option Text

abbrev pub asked_view : AskedFinding → AskedOf
asked_view f = record {
  code = f.code;
  column = option_map string_bytes f.column;
  found = option_map string_bytes f.found;
  expected = string_bytes f.expected;
  help = option_map string_bytes f.help;
}

-- of an expectation whose column is not there, and may have another name
abbrev pub help_of : Option Near → Text
help_of None = codes "No column has that name."
help_of (Some near) = codes "No column has that name. Did you mean " ++ (string_bytes near.name ++ codes "?")

abbrev pub no_column : Want → Option Near → AskedOf
no_column w near = record { code = Expect; column = Some (string_bytes w.column); found = None; expected = string_bytes w.want; help = Some (help_of near) }

-- of one that its column does not meet
abbrev pub unlike_column : Want → Unlike → AskedOf
unlike_column w u = record { code = Expect; column = Some (string_bytes w.column); found = Some (string_bytes u.held); expected = string_bytes u.wanted; help = None }

-- of an expectation, by what is found of it
abbrev pub unmet_by : Want → Found → List AskedOf
unmet_by w (NoColumn near) = no_column w near ∷ []
unmet_by w (Looked None) = []
unmet_by w (Looked (Some u)) = unlike_column w u ∷ []

-- of a file of so many columns, none of which holds geometries, where types are inferred or not
abbrev pub help_unless : Bool → Option Text
help_unless true = None
help_unless false = Some (code_help NoGeometry)

abbrev pub no_geometry : ℕ → Bool → AskedOf
no_geometry n infer = record {
  code = NoGeometry;
  column = None;
  found = Some (decimal n ++ (codes " " ++ (if n == 1 then codes "column" else codes "columns")));
  expected = expected_of NoGeometry;
  help = help_unless infer;
}

-- all of it: of each expectation, and that the file has no geometries, where some are required
abbrev pub unmet_of : Asked → Counted → List AskedOf
unmet_of asked c =
    flat_map (λ x. unmet_by x.0 x.1) (zip asked.wants.items c.found.items)
    ++ (if asked.flags.require_geometry && not c.summary.has_geometry then no_geometry c.numbers.columns asked.flags.infer ∷ [] else [])

-- each counts as an error
abbrev pub as_error : AskedFinding → Weighed
as_error f = record { severity = Error; more = 0; finding = of.Asked f }
