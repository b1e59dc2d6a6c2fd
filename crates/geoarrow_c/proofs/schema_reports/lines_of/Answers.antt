use Rattle.geoarrow_c.proofs.Walked.{reports_as}
use Rattle.geoarrow_c.proofs.schema_reports.lines_of.Goals as goal

pub returns : goal.returns
returns c =
    reports_as c.args.asked c.args.size c.args.schema c.in_ok-report.report c.json_lines.result
    (record { opened = c.opened-file.result; is = c.opened-file.ensures; said = c.in_ok-report.ensures })
    (rw c.report_budget.ensures at c.json_lines.ensures)
