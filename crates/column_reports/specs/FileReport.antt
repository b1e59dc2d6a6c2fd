-- The report of a file: its columns with what is said of each, and what is found of it; and its lines of JSON.
use Rattle.std.specs.Prelude.{◌≡◌, ◌⊎◌, ◌<◌, ◌≤◌, ◌+◌, ◌++◌, ℕ, ⊤, Bool, true, false, List, [], ◌∷◌, codes, length, map, Option, Result, Ok, Err, String, string_bytes}
use Rattle.std.specs.List.{zip}
use Rattle.std.specs.Global.{Global}
use Rattle.json.specs.Print.{print}
use Rattle.json.specs.Tree.{json_tokens}
use Rattle.arrow_values.specs.Tree.{Text}
use Rattle.arrow_columns.specs.Column.{column_tree}
use Rattle.arrow_columns.specs.Types.{ColumnTree}
use Rattle.column_files.specs.Files.{IsOpened}
use Rattle.column_files.specs.declared.form.Form.{Form}
use Rattle.column_files.specs.declared.form.Form.TheVariants.{Parquet, Lines}
use Rattle.column_files.specs.declared.geo.GeoText.{GeoText}
use Rattle.column_files.specs.declared.geo.GeoText.TheVariants.{Absent, Footer, Schema}
use Rattle.column_files.specs.declared.opening.File.{File}
use Rattle.column_files.specs.declared.columns.FileFault.{FileFault}
use Rattle.column_files.specs.declared.columns.FileFault.TheVariants.{ReportTooLarge, OutOfMemory}
use Rattle.geoparquet.specs.Facts.{facts_of}
use Rattle.geoparquet.specs.Findings.{finding}
use Rattle.geoparquet.specs.GeoColumns.{AreColumnsBy}
use Rattle.geoparquet.specs.GeoFindings.{AreGeoFindings}
use Rattle.geoparquet.specs.Sources.{Source, unasked, missing, value}
use Rattle.geoparquet.specs.declared.finding.GeoReport.{GeoReport}
use Rattle.parquet_columns.specs.Budget.{budget}
use Rattle.parquet_columns.specs.Layouts.{root_element}
use Rattle.column_reports.specs.Capped.{kept_of_file}
use Rattle.column_reports.specs.ByColumn.{names_of}
use Rattle.column_reports.specs.Columns.{IsColumnReport, Told}
use Rattle.column_reports.specs.Faults.{kept_text}
use Rattle.column_reports.specs.FindingLines.{findings_text}
use Rattle.column_reports.specs.Gathered.{of_file, told_before, told_behind}
use Rattle.column_reports.specs.Named.{Known, all_known, all_named, nobody_where}
use Rattle.column_reports.specs.Report.{report}
use Rattle.column_reports.specs.Summary.{IsSummary}
use Rattle.column_reports.specs.Weighed.{weighed}
use Rattle.column_reports.specs.Weights.{Weighing, plain}
use Rattle.column_reports.specs.declared.file.FileReport.{FileReport}
use Rattle.column_reports.specs.declared.report.ColumnReport.{ColumnReport}
use Rattle.column_reports.specs.declared.report.Options.{Options}

-- each of the columns, of which that is known, and of which the file tells that, has its report
abbrev pub AreReported : Bool → Weighing → Bool → List ((ColumnTree × Known) × Told) → List ColumnReport → Type 0
AreReported infer w alone [] [] = ⊤
AreReported infer w alone (x ∷ xs) (r ∷ rs) = IsColumnReport infer w alone x.0.0 x.0.1 x.1 r × AreReported infer w alone xs rs
AreReported infer w alone _ _ = ⊥

-- lines tell nothing of a column but in its report
abbrev pub is_lines : Form → Bool
is_lines Lines = true
is_lines form = false

-- what the rules of GeoParquet take a file in that format to have at the key: of a Parquet file the key is missing where nothing stands at it
abbrev pub nothing_in : Form → Source
nothing_in Parquet = missing
nothing_in form = unasked

abbrev pub source_in : Form → GeoText → Source
source_in form Absent = nothing_in form
source_in form (Footer text) = value text.bytes.now
source_in form (Schema text) = value (string_bytes text)

-- the report of a file that was opened, where types are inferred or not and that is asked of findings
pub record IsReport (infer : Bool) (w : Weighing) (opened : File) (r : FileReport) : Type 0 where
  pub form : r.form ≡ opened.form
  -- what the metadata are found to be, of the columns that the file denotes
  pub geo : GeoReport
  pub is_geo : AreGeoFindings (source_in opened.form opened.geo) (map column_tree opened.columns.items) (map root_element opened.elements.items) geo.version (map finding geo.findings.items)
  -- its columns by the metadata, each with its report, which has the facts of the columns that the file denotes, and tells of whoever names them, and what is found of them in the footer, in its schemas and in the
  -- metadata
  pub by : List ColumnTree
  pub are_by : AreColumnsBy (source_in opened.form opened.geo) (map column_tree opened.columns.items) (map root_element opened.elements.items) by
  pub columns : AreReported infer w (is_lines opened.form) (zip (zip by (all_known (facts_of (source_in opened.form opened.geo) (map column_tree opened.columns.items) (map root_element opened.elements.items))
      (nobody_where opened.refuted.items (all_named (map column_tree opened.columns.items) (map root_element opened.elements.items)))))
      (zip (told_before (names_of by) opened.findings.items) (told_behind opened.form (names_of by) opened.findings.items geo))) r.columns.items
  -- and what is found of no column
  pub findings : r.findings.items ≡ kept_of_file (weighed w (of_file opened.form (names_of by) opened.texts.items opened.findings.items geo))
  pub bad_lines : r.bad_lines ≡ opened.bad_lines
  pub summary : IsSummary r.columns.items r.findings.items r.bad_lines.first.items r.summary

-- ---- as lines of JSON

-- the line of a column at that place, and those of columns from a place on, each with its line feed
abbrev pub line_of : Option Text → ℕ → ColumnReport → Text
line_of file index r = print (json_tokens (report file index r)) ++ codes "\n"

abbrev pub lines_of : Option Text → ℕ → List ColumnReport → Text
lines_of file index [] = []
lines_of file index (r ∷ rs) = line_of file index r ++ lines_of file (index + 1) rs

-- the lines of a report: those of its columns, those of its bad lines, and those of what is found of the file
abbrev pub report_text : Option Text → FileReport → Text
report_text file r = lines_of file 0 r.columns.items ++ (kept_text file r.bad_lines ++ findings_text file r.findings.items)

-- what a call answers of a text within a limit of bytes: the text; or that it has more, or that memory is lacking
abbrev pub IsWithin : ℕ → Text → Result (String Global) FileFault → Type 0
IsWithin limit text (Ok made) = (string_bytes made ≡ text) × (length text ≤ limit)
IsWithin limit text (Err fault) = (fault ≡ OutOfMemory) ⊎ ((fault ≡ ReportTooLarge) × (limit < length text))

-- ---- by the bytes

-- the report of the file that these bytes are
pub record IsReportOf (o : Options) (bytes : List ℕ) (r : FileReport) : Type 0 where
  pub opened : File
  pub is : IsOpened bytes (Ok opened)
  pub said : IsReport o.infer (plain o.notes) opened r

-- what a call answers of the bytes of a file: the lines of its report within the budget of the bytes; or why there are none
abbrev pub ReportsOf : Option Text → Options → List ℕ → Result (String Global) FileFault → Type 0
ReportsOf file o bytes result = (r : FileReport) × IsReportOf o bytes r × IsWithin (budget (length bytes)) (report_text file r) result

abbrev pub Reports : Option Text → Options → List ℕ → Result (String Global) FileFault → Type 0
Reports file o bytes (Ok lines) = ReportsOf file o bytes (Ok lines)
Reports file o bytes (Err fault) = (fault ≡ OutOfMemory) ⊎ (IsOpened bytes (Err fault) ⊎ ReportsOf file o bytes (Err fault))
