use Rattle.std.proofs.Common.{Some, codes, ap, ◌∙◌}
use Rattle.std.proofs.lemmas.Result.{on_ok_weaker}
use Rattle.column_reports.specs.Codes.{word_of}
use Rattle.column_reports.specs.Objects.{string_if}
use Rattle.column_reports.proofs.Adding.{then, for}
use Rattle.column_reports.proofs.finding_json.put_rule.Goals as goal

pub returns : goal.returns
returns c =
    let severity = then c.in_ok-put_text_if.ensures (for (λ s. string_if (codes "severity") (Some s)) c.in_ok-put_text.ensures c.word.ensures) in
    let code = for (λ s. string_if (codes "code") (Some s)) c.in_ok-put_text-2.ensures (c.word-2.ensures ∙ ap word_of c.code.ensures) in
    on_ok_weaker c.put_text_if-2.result (λ file. then (then severity code) file) c.put_text_if-2.ensures
