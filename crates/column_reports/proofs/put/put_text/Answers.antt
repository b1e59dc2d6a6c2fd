use Rattle.value_tokens.proofs.Adding.{sent}
use Rattle.column_reports.proofs.Adding.{finished, named}
use Rattle.column_reports.proofs.put.put_text.Goals as goal

pub returns : goal.returns
returns c = finished c.string.result (λ e. named (sent c.in_ok-key.ensures) e) c.string.ensures
