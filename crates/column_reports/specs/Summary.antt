-- What counts of a file for its status.
use Rattle.std.specs.Prelude.{◌≡◌, ◌==◌, ◌||◌, ℕ, Bool, List, length, not, is_some, if◌then◌else◌}
use Rattle.std.specs.List.{list_any}
use Rattle.column_check.specs.States.{geometry_in}
use Rattle.column_files.specs.declared.bad_lines.BadLine.{BadLine}
use Rattle.column_reports.specs.Weighed.{is_error}
use Rattle.column_reports.specs.declared.report.ColumnReport.{ColumnReport}
use Rattle.column_reports.specs.declared.summary.Summary.{Summary}
use Rattle.column_reports.specs.declared.weighed.Weighed.{Weighed}

-- one of the findings counts as an error
abbrev pub has_error : List Weighed → Bool
has_error fs = list_any is_error fs

-- the summary of a file with these reports of columns, of which that is found, and these bad lines: whether a column holds geometries or is taken for
-- some, whether a finding of a column or of the file counts as an error, and whether a line is bad
pub record IsSummary (rs : List ColumnReport) (fs : List Weighed) (bad : List BadLine) (s : Summary) : Type 0 where
  pub geometry : s.has_geometry ≡ list_any (λ r. is_some (geometry_in r.finding)) rs
  pub failed : s.has_failed ≡ (list_any (λ r. has_error r.findings.items) rs || has_error fs)
  pub bad_lines : s.has_bad_lines ≡ not (length bad == 0)

-- the status: 2 where a line is bad; else 1 where a finding counts as an error, or what is asked of the file is not met
abbrev pub status : Summary → Bool → ℕ
status s is_unmet = if s.has_bad_lines then 2 else (if s.has_failed || is_unmet then 1 else 0)
