use Rattle.std.proofs.Common.{◌++◌}
use Rattle.arrow_values.specs.Texts.{text_of}
use Rattle.column_reports.specs.FileReport.{lines_of}
use Rattle.column_reports.specs.Faults.{kept_text}
use Rattle.column_reports.specs.FindingLines.{findings_text}
use Rattle.column_reports.proofs.Whole.{longer}
use Rattle.column_reports.proofs.lines.json_lines.Goals as goal

pub returns-in-Err : goal.returns-in-Err
returns-in-Err c =
    let file = text_of c.args.file in
    longer c.args.limit (lines_of file 0 c.args.report.now.columns.items) (kept_text file c.args.report.now.bad_lines ++ findings_text file c.args.report.now.findings.items) c.in-Err.fault (rw c.as_slice.ensures.value at c.in-Err.ensures)
