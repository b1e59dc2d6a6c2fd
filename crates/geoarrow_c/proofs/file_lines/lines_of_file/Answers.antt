use Rattle.std.proofs.lemmas.Result.{IfOk-weaker}
use Rattle.geoarrow_c.proofs.Written.{as_read}
use Rattle.geoarrow_c.proofs.file_lines.lines_of_file.Goals as goal

pub returns : goal.returns
returns c = IfOk-weaker c.lines_of.result _ _ (λ lines are. as_read c.in_ok-report.report c.in_ok-report.ensures are) c.lines_of.ensures
