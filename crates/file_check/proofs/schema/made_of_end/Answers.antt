use Rattle.file_check.proofs.Made.{whole}
use Rattle.file_check.proofs.schema.made_of_end.Goals as goal

pub returns-in_ok-report-in-Ok : goal.returns-in_ok-report-in-Ok
returns-in_ok-report-in-Ok c =
    whole c.args.asked.now c.args.file.now c.args.form c.args.start c.args.end.now c.in_ok-report-in-Ok.report c.made_of.result
    (record { opened = c.in-Ok.opened; is = c.in-Ok.ensures; said = c.in_ok-report-in-Ok.ensures })
    (rw c.report_budget-limit.ensures at c.made_of.ensures)
