use Rattle.std.proofs.Common.{codes}
use Rattle.std.proofs.lemmas.Result.{on_ok_weaker}
use Rattle.column_reports.specs.Objects.{string_if}
use Rattle.column_reports.proofs.Adding.{then, for}
use Rattle.column_reports.proofs.fact_members.put_each.Goals as goal

pub returns : goal.returns
returns c =
    let element = for (string_if (codes "element")) c.in_ok-put_text_if.ensures c.word_if.ensures in
    let field = for (string_if (codes "field")) c.in_ok-put_text_if-2.ensures c.word_if-2.ensures in
    on_ok_weaker c.put_text_if-3.result (λ geo. then (then element field) (for (string_if (codes "geo")) geo c.word_if-3.ensures)) c.put_text_if-3.ensures
