-- The lines of a report, from those of its columns; and the report of a file, from the file that was opened.
use Rattle.std.proofs.Common.{◌++◌, ℕ, List, length, Option, Result, Ok, Err, inl, inr, arith}
use Rattle.std.proofs.lemmas.List.{length-append}
use Rattle.std.specs.Prelude.{String}
use Rattle.std.specs.declared.alloc.Global.{Global}
use Rattle.arrow_values.specs.Tree.{Text}
use Rattle.column_files.specs.declared.columns.FileFault.{FileFault}
use Rattle.parquet_columns.specs.Budget.{budget}
use Rattle.column_reports.specs.FileReport.{IsReportOf, IsWithin, Reports, report_text}
use Rattle.column_reports.specs.declared.file.FileReport.{FileReport}
use Rattle.column_reports.specs.declared.report.Options.{Options}

-- where the first part of a text is too long, the text is
pub longer : (limit : ℕ) (front back : Text) (fault : FileFault) → IsWithin limit front (Err fault) → IsWithin limit (front ++ back) (Err fault)
longer limit front back fault (inl memory) = inl memory
longer limit front back fault (inr (large, past)) = inr (large, omega (arith, past, length-append front back))

-- the lines of the report of the file that was opened are those of the bytes
pub of_bytes : (file : Option Text) (o : Options) (bytes : List ℕ) (r : FileReport) (result : Result (String Global) FileFault) → IsReportOf o bytes r
    → IsWithin (budget (length bytes)) (report_text file r) result → Reports file o bytes result
of_bytes file o bytes r (Ok lines) is within = (r, is, within)
of_bytes file o bytes r (Err fault) is within = inr (inr (r, is, within))
