use Rattle.value_tokens.proofs.Adding.{sent}
use Rattle.same_columns.proofs.Adding.{finished, named}
use Rattle.same_columns.proofs.lines.put_text.Goals as goal

pub returns : goal.returns
returns c = finished c.string.result (λ e. named (sent c.in_ok-key.ensures) e) c.string.ensures
