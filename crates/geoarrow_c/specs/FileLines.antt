-- What the call that writes the columns of a file as lines writes (docs/FORMAT.md, 2.7).
use Rattle.std.specs.Prelude.{◌≡◌, false, flat_map, map, Ok}
use Rattle.arrow_columns.specs.Column.{column_tree}
use Rattle.arrow_columns.specs.Types.{ColumnTree}
use Rattle.column_files.specs.Files.{IsOpened}
use Rattle.column_files.specs.declared.opening.File.{File}
use Rattle.column_reports.specs.FileReport.{IsReport}
use Rattle.column_reports.specs.Weights.{plain}
use Rattle.column_reports.specs.declared.file.FileReport.{FileReport}
use Rattle.column_reports.specs.declared.report.ColumnReport.{ColumnReport}
use Rattle.geoarrow_fields.specs.Lines.{Bytes}
use Rattle.geoarrow_c.specs.Canonical.{line_of}

-- the column of which a report says something
abbrev pub tree_of : ColumnReport → ColumnTree
tree_of r = column_tree r.column

-- the lines are those of the columns of the report of a file that was opened
pub record AreLinesAsRead (opened : File) (lines : Bytes) : Type 0 where
  pub report : FileReport
  pub is_report : IsReport false (plain false) opened report
  pub are : lines ≡ flat_map line_of (map tree_of report.columns.items)

-- the lines are those of the file of these bytes
pub record AreFileLines (bytes lines : Bytes) : Type 0 where
  pub opened : File
  pub is_opened : IsOpened bytes (Ok opened)
  pub are : AreLinesAsRead opened lines
