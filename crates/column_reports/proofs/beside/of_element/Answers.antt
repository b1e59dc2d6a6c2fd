use Rattle.std.proofs.Common.{false, subst}
use Rattle.std.proofs.lemmas.Result.{IfOk-weaker}
use Rattle.column_check.specs.Finding.{IsFinding}
use Rattle.column_check.specs.Warnings.{AreWarnings}
use Rattle.column_reports.proofs.beside.of_element.Goals as goal

pub returns : goal.returns
returns c =
    let is = c.in_ok-column.ensures in
    let f = c.in_ok-finding.finding in
    let found = subst (λ t. IsFinding false t f) is c.in_ok-finding.ensures in
    IfOk-weaker c.warnings.result _ _ (λ ws are. (f, found, subst (λ t. AreWarnings false t f ws.items) is are)) c.warnings.ensures
