use Rattle.std.proofs.Common.{codes, Some}
use Rattle.std.proofs.lemmas.Result.{on_ok_weaker}
use Rattle.column_reports.specs.Objects.{string_if}
use Rattle.column_reports.proofs.Adding.{then, for}
use Rattle.column_reports.proofs.line.put_names.Goals as goal

pub returns : goal.returns
returns c =
    let before = then (then c.in_ok-put_text.ensures c.in_ok-put_text_if.ensures) c.in_ok-put_number.ensures in
    on_ok_weaker c.put_text-2.result (λ name. then before (for (λ s. string_if (codes "column") (Some s)) name c.as_str.ensures.value)) c.put_text-2.ensures
