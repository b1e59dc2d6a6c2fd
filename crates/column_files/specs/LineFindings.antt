-- What is found of lines beside their columns and bad lines (docs/FORMAT.md, 4.5).
use Rattle.std.specs.Prelude.{ℕ, Bool, List, [], ◌∷◌, Some, None, if◌then◌else◌}
use Rattle.parquet_columns.specs.Findings.{Finding, of_file}
use Rattle.parquet_columns.specs.declared.code.FileCode.TheVariants.{ByteOrderMark}
use Rattle.parquet_columns.specs.declared.code.FilePart.TheVariants.{File}
use Rattle.column_files.specs.Forms.{is_marked}

-- the byte order mark, at the first byte of the file
abbrev pub byte_order_mark : Finding
byte_order_mark = of_file ByteOrderMark (record { part = File; byte = Some 0 }) None None

-- by whether they begin with one
abbrev pub mark_findings : Bool → List Finding
mark_findings marked = if marked then byte_order_mark ∷ [] else []

abbrev pub lines_findings : List ℕ → List Finding
lines_findings bytes = mark_findings (is_marked bytes)
