-- What is said of a column, as a row of a table.
use Rattle.std.specs.Prelude.{Bool, true, false, List, [], ◌++◌, codes, map, Option, None, Some, option_map, if◌then◌else◌}
use Rattle.std.specs.List.{list_any}
use Rattle.std.specs.Option.{unwrap_or}
use Rattle.arrow_values.specs.Tree.{Text}
use Rattle.arrow_columns.specs.Column.{column_tree, name_on}
use Rattle.arrow_columns.specs.Types.{ColumnTree}
use Rattle.geoarrow_layout.specs.declared.native_kinds.Kind.{Kind}
use Rattle.geoarrow_layout.specs.Kinds.{coord_type_of, dimension_of}
use Rattle.geoarrow_layout.specs.KindWords.{kind_word, coord_type_word, dimension_word}
use Rattle.column_check.specs.Severities.{is_error_of}
use Rattle.column_check.specs.declared.code.Severity.{Severity}
use Rattle.column_check.specs.declared.code.Severity.TheVariants.{Error, Warning, Note}
use Rattle.column_check.specs.declared.finding.Finding.{Finding as ColumnFinding}
use Rattle.column_check.specs.declared.finding.Finding.TheVariants.{Geometry, Invalid, Extension, Inferred, Plain}
use Rattle.column_check.specs.declared.finding.Reasons.TheVariants.{Unread}
use Rattle.column_check.specs.States.{geometry_in}
use Rattle.geoparquet.specs.Facts.{FactsOf, facts_view}
use Rattle.column_reports.specs.FactMembers.{facts_in}
use Rattle.column_reports.specs.Report.{type_word}
use Rattle.column_reports.specs.FindingWords.{finding_words}
use Rattle.column_reports.specs.declared.report.ColumnReport.{ColumnReport}
use Rattle.column_reports.specs.declared.weighed.Weighed.{Weighed}
use Rattle.file_check.specs.Table.{Line, cut}
use Rattle.file_check.specs.Crs.{crs_that_counts, edges_that_count}
use Rattle.file_check.specs.Shown.{shown}

-- the name of a column's extension type, or nothing
abbrev pub extension_word : ColumnTree → Text
extension_word c = unwrap_or (name_on c) []

-- a word behind a blank
abbrev pub behind : Text → Text
behind word = codes " " ++ word

-- the kind of geometries, their coordinate type and their dimension, where they have these
abbrev pub kind_shown : Kind → Text
kind_shown k =
    kind_word k
    ++ (unwrap_or (option_map (λ c. behind (coord_type_word (Some c))) (coord_type_of k)) []
    ++ unwrap_or (option_map (λ d. behind (dimension_word (Some d))) (dimension_of k)) [])

-- what a column holds
abbrev pub held : ColumnTree → ColumnFinding → Text
held c (Geometry g) = kind_shown g.kind
held c (Inferred g) = codes "taken for " ++ kind_shown g.kind
held c Plain = shown (type_word c None)
held c (Invalid Unread) = shown (type_word c None)
held c (Invalid r) = codes "invalid " ++ shown (extension_word c)
held c Extension = codes "extension " ++ shown (extension_word c)

-- the facts of geometries
abbrev pub facts_of : ColumnReport → Option FactsOf
facts_of r = facts_in (geometry_in r.finding) (facts_view r.facts)

-- it is that of a warning
abbrev pub is_warning_of : Severity → Bool
is_warning_of Error = false
is_warning_of Warning = true
is_warning_of Note = false

-- the worst severity of findings, if there are any
abbrev pub worst_of : List Weighed → Option Severity
worst_of [] = None
worst_of ws =
    if list_any (λ w. is_error_of w.severity) ws then Some Error else
    if list_any (λ w. is_warning_of w.severity) ws then Some Warning else Some Note

-- the row: how much the worst counts of what is found; the column's name, what it holds, of geometries their CRS and edges, in cells that are cut; and as notes what is found of it
abbrev pub row_of : ColumnReport → Line
row_of r = record {
  mark = worst_of r.findings.items;
  name = cut (shown (column_tree r.column).name);
  holds = cut (held (column_tree r.column) r.finding);
  crs = unwrap_or (option_map crs_that_counts (facts_of r)) [];
  edges = unwrap_or (option_map edges_that_count (facts_of r)) [];
  notes = map shown (map finding_words r.findings.items);
}
