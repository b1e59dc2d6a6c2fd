use Rattle.json.specs.Json.{string}
use Rattle.value_tokens.proofs.Adding.{sent}
use Rattle.column_reports.proofs.Adding.{finished, array, named, one}
use Rattle.column_reports.proofs.put.put_one.Goals as goal

pub returns : goal.returns
returns c =
    let value = one (string c.args.text.now) (sent c.in_ok-string.ensures) in
    finished c.end_array.result (λ e. named (sent c.in_ok-key.ensures) (array (sent c.in_ok-begin_array.ensures) value e)) c.end_array.ensures
