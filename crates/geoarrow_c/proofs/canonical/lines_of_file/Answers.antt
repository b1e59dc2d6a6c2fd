use Rattle.std.proofs.lemmas.Result.{IfOk-weaker}
use Rattle.geoarrow_c.proofs.Written.{are_of_file}
use Rattle.geoarrow_c.proofs.canonical.lines_of_file.Goals as goal

pub returns : goal.returns
returns c = IfOk-weaker c.lines_of.result _ _ (λ lines are. are_of_file c.in_ok-report.report c.in_ok-report.ensures are) c.lines_of.ensures
