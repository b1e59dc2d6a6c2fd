use Rattle.std.proofs.Common.{Some, codes}
use Rattle.std.proofs.lemmas.Result.{on_ok_weaker}
use Rattle.column_reports.specs.Objects.{string_if}
use Rattle.same_columns.proofs.Adding.{then, for}
use Rattle.same_columns.proofs.lines.put_words.Goals as goal

pub returns : goal.returns
returns c =
    let found = for (string_if (codes "found")) c.in_ok-put_text_if.ensures c.as_deref.ensures.value in
    let expected = for (λ s. string_if (codes "expected") (Some s)) c.in_ok-put_text.ensures c.as_str.ensures.value in
    on_ok_weaker c.put_text-2.result (λ help. then (then found expected) help) c.put_text-2.ensures
