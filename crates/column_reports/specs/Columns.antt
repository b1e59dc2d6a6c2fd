-- What is said of a column, as one value.
use Rattle.std.specs.Prelude.{◌≡◌, ◌&&◌, ◌++◌, Bool, true, not, List, []}
use Rattle.arrow_columns.specs.Column.{column_tree}
use Rattle.arrow_columns.specs.Types.{ColumnTree}
use Rattle.column_check.specs.Finding.{IsFinding}
use Rattle.column_check.specs.declared.finding.Finding.{Finding}
use Rattle.column_check.specs.declared.finding.Finding.TheVariants.{Invalid}
use Rattle.column_check.specs.declared.finding.Reasons.TheVariants.{Unread}
use Rattle.column_check.specs.Warnings.{AreWarnings}
use Rattle.column_check.specs.declared.warning.Warning.{Warning}
use Rattle.geoparquet.specs.Facts.{FactsOf, facts_view}
use Rattle.column_reports.specs.Beside.{AreBeside}
use Rattle.column_reports.specs.Capped.{kept_of_column}
use Rattle.column_reports.specs.Claims.{AreClaims}
use Rattle.column_reports.specs.Gathered.{of_column}
use Rattle.column_reports.specs.Named.{Known}
use Rattle.column_reports.specs.Weighed.{weighed}
use Rattle.column_reports.specs.Weights.{Weighing}
use Rattle.column_reports.specs.declared.finding.Finding.{Finding as Found}
use Rattle.column_reports.specs.declared.named.NamedBy.{NamedBy}
use Rattle.column_reports.specs.declared.named.NamedBy.TheVariants.{Nobody}
use Rattle.column_reports.specs.declared.report.ColumnReport.{ColumnReport}

-- what is said of a column whose name is by that: of one that is not read, that a finding of the file says why
abbrev pub IsFoundBy : NamedBy → Bool → ColumnTree → Finding → Type 0
IsFoundBy Nobody infer c f = f ≡ Invalid Unread
IsFoundBy by infer c f = IsFinding infer c f

-- whether its type is inferred where types are: not of a column that a covering names
abbrev pub infers : Bool → FactsOf → Bool
infers infer fs = infer && not fs.covered

-- what the file tells of a column, before what is found of the column itself and behind it
abbrev pub Told : Type 0
Told = List Found × List Found

-- of a column alone nothing
abbrev pub nothing_told : Told
nothing_told = ([], [])

-- the report of a column of which that is known, and of which a file tells that, alone or in a file that tells what is found of its claims, where types are inferred or not and that is asked of findings: the column
-- itself, by whom it has its name, what is said of it, its facts, and those of what is found of it that are told and shown, as many of one code as are kept
pub record IsColumnReport (infer : Bool) (w : Weighing) (alone : Bool) (c : ColumnTree) (k : Known) (t : Told) (r : ColumnReport) : Type 0 where
  pub column : column_tree r.column ≡ c
  pub by : r.by ≡ k.by
  pub finding : IsFoundBy k.by (infers infer k.facts) c r.finding
  pub facts : facts_view r.facts ≡ k.facts
  pub warnings : List Warning
  pub are : AreWarnings true c r.finding warnings
  pub beside : List Warning
  pub are_beside : AreBeside k.beside beside
  pub claims : List Found
  pub are_claims : AreClaims alone c claims
  pub findings : r.findings.items ≡ kept_of_column (weighed w (t.0 ++ of_column k c warnings beside ++ claims ++ t.1))
