use Rattle.std.proofs.Common.{Some, codes}
use Rattle.std.proofs.lemmas.Result.{on_ok_weaker}
use Rattle.column_reports.specs.Objects.{string_if}
use Rattle.same_columns.proofs.Adding.{then, for}
use Rattle.same_columns.proofs.lines.put_rule.Goals as goal

pub returns : goal.returns
returns c =
    let severity = for (λ s. string_if (codes "severity") (Some s)) c.in_ok-put_text-2.ensures c.word.ensures in
    let code = for (λ s. string_if (codes "code") (Some s)) c.in_ok-put_text-3.ensures c.word-2.ensures in
    let before = then (then (then c.in_ok-put_text.ensures severity) code) c.in_ok-put_text_if.ensures in
    on_ok_weaker c.put_text-4.result
    (λ column. then before (for (λ s. string_if (codes "column") (Some s)) column c.as_str.ensures.value)) c.put_text-4.ensures
