use Rattle.std.proofs.Common.{Some, codes}
use Rattle.std.proofs.lemmas.Result.{on_ok_weaker}
use Rattle.column_reports.specs.Objects.{string_if}
use Rattle.column_reports.proofs.Adding.{then, for}
use Rattle.column_reports.proofs.fault.put_rule.Goals as goal

pub returns : goal.returns
returns c =
    let severity = for (λ s. string_if (codes "severity") (Some s)) c.in_ok-put_text-2.ensures c.word.ensures in
    let before = then (then c.in_ok-put_text.ensures severity) c.in_ok-put_text-3.ensures in
    on_ok_weaker c.put_text_if.result (λ file. then before file) c.put_text_if.ensures
