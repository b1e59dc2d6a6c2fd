use Rattle.std.proofs.lemmas.Result.{on_ok_weaker}
use Rattle.column_reports.proofs.Adding.{then}
use Rattle.column_reports.proofs.fault.put_words.Goals as goal

pub returns : goal.returns
returns c =
    let before = then (then c.in_ok-put_text.ensures c.in_ok-put_text-2.ensures) c.in_ok-put_text_if.ensures in
    on_ok_weaker c.put_more.result (λ more. then before more) c.put_more.ensures
