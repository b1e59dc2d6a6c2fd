-- The lines of the report of a schema that lies in memory.
use Rattle.std.proofs.Common.{inr, ℕ, None, Result, Ok, Err, String, Global}
use Rattle.column_files.specs.declared.columns.FileFault.{FileFault}
use Rattle.column_reports.specs.FileReport.{IsWithin, report_text}
use Rattle.column_reports.specs.declared.file.FileReport.{FileReport}
use Rattle.column_reports.specs.declared.report.Options.{Options}
use Rattle.parquet_columns.specs.Budget.{budget}
use Rattle.record_columns.specs.declared.schema.RecordSchema.{RecordSchema}
use Rattle.geoarrow_c.specs.SchemaReports.{IsReportOf, Reports}

-- the lines of a report, or why there are none
pub reports_as : (o : Options) (size : ℕ) (s : RecordSchema) (r : FileReport) (result : Result (String Global) FileFault) → IsReportOf o s r → IsWithin (budget size) (report_text None r) result
    → Reports o size s result
reports_as o size s r (Ok lines) is within = (r, is, within)
reports_as o size s r (Err fault) is within = inr (r, is, within)
