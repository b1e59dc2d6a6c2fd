use Rattle.std.proofs.Common.{Some, codes, ◌∙◌}
use Rattle.std.proofs.lemmas.Result.{on_ok_weaker}
use Rattle.column_reports.specs.Objects.{string_if}
use Rattle.column_reports.proofs.Adding.{then, for}
use Rattle.column_reports.proofs.finding_json.put_words.Goals as goal

pub returns : goal.returns
returns c =
    let found = for (string_if (codes "found")) c.in_ok-put_text_if.ensures (c.as_deref.ensures.value ∙ c.in_ok-found.ensures) in
    let expected = for (λ s. string_if (codes "expected") (Some s)) c.in_ok-put_text.ensures (c.as_str.ensures.value ∙ c.in_ok-expected.ensures) in
    let help = for (string_if (codes "help")) c.in_ok-put_text_if-2.ensures (c.as_deref-2.ensures.value ∙ c.in_ok-help.ensures) in
    on_ok_weaker c.put_more.result (λ more. then (then (then found expected) help) more) c.put_more.ensures
