use Rattle.arrow_values.specs.Texts.{text_of}
use Rattle.column_reports.proofs.Whole.{of_bytes}
use Rattle.column_reports.proofs.file.report_file.Goals as goal

pub returns-in_ok-report-in-Ok : goal.returns-in_ok-report-in-Ok
returns-in_ok-report-in-Ok c =
    of_bytes (text_of c.args.file) c.args.options c.args.bytes.now c.in_ok-report-in-Ok.report c.json_lines.result
    (record { opened = c.in-Ok.opened; is = c.in-Ok.ensures; said = c.in_ok-report-in-Ok.ensures })
    (rw c.report_budget-limit.ensures at c.json_lines.ensures)
