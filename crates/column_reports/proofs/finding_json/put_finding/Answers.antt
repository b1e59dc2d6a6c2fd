use Rattle.value_tokens.proofs.Adding.{sent}
use Rattle.column_reports.proofs.Adding.{finished, then, object}
use Rattle.column_reports.proofs.finding_json.put_finding.Goals as goal

pub returns : goal.returns
returns c =
    let members = then (then c.in_ok-put_rule.ensures c.in_ok-put_place.ensures) c.in_ok-put_words.ensures in
    finished c.end_object.result (λ e. object (sent c.in_ok-begin_object.ensures) members e) c.end_object.ensures
