-- What the call that writes the columns of a file in normal form writes (docs/FORMAT.md, 2.10).
use Rattle.std.specs.Prelude.{◌≡◌, ◌++◌, Bool, true, false, List, codes, flat_map, Ok}
use Rattle.std.specs.List.{AllZip}
use Rattle.arrow_columns.specs.Column.{column_tree}
use Rattle.arrow_columns.specs.Types.{ColumnTree}
use Rattle.canonical_columns.specs.Canonical.{IsCanonical}
use Rattle.column_check.specs.States.{is_geometry}
use Rattle.column_files.specs.ColumnLines.{line_of_column}
use Rattle.column_files.specs.Files.{IsOpened}
use Rattle.column_files.specs.declared.opening.File.{File}
use Rattle.column_reports.specs.FileReport.{IsReport}
use Rattle.column_reports.specs.Weights.{plain}
use Rattle.column_reports.specs.declared.file.FileReport.{FileReport}
use Rattle.column_reports.specs.declared.report.ColumnReport.{ColumnReport}
use Rattle.geoarrow_fields.specs.Lines.{Bytes}

-- n is what is written of a column: of one of geometries its normal form, and of any other itself
abbrev pub IsNormal : Bool → ColumnTree → ColumnTree → Type 0
IsNormal true c n = IsCanonical c n
IsNormal false c n = n ≡ c

-- n is what is written of the column of a report, which says whether it holds geometries
abbrev pub IsWritten : ColumnReport → ColumnTree → Type 0
IsWritten r n = IsNormal (is_geometry r.finding) (column_tree r.column) n

-- the line of a column, with its line feed
abbrev pub line_of : ColumnTree → Bytes
line_of n = line_of_column n ++ codes "\n"

-- the lines are those of what is written of the columns of reports, in their order
pub record AreLinesOf (reports : List ColumnReport) (lines : Bytes) : Type 0 where
  pub columns : List ColumnTree
  pub are_written : AllZip IsWritten reports columns
  pub are : lines ≡ flat_map line_of columns

-- the lines are those of the report of a file that was opened, for which no type is inferred
pub record AreLinesOfFile (opened : File) (lines : Bytes) : Type 0 where
  pub report : FileReport
  pub is_report : IsReport false (plain false) opened report
  pub are : AreLinesOf report.columns.items lines

-- the lines are those of the file of these bytes
pub record AreCanonical (bytes lines : Bytes) : Type 0 where
  pub opened : File
  pub is_opened : IsOpened bytes (Ok opened)
  pub are : AreLinesOfFile opened lines
