use Rattle.std.proofs.lemmas.Result.{on_ok_weaker}
use Rattle.column_reports.proofs.Adding.{then}
use Rattle.column_reports.proofs.line.put_crs_and_edges.Goals as goal

pub returns : goal.returns
returns c =
    let before = then c.in_ok-put_crs.ensures c.in_ok-put_edges.ensures in
    on_ok_weaker c.put_epoch.result (λ epoch. then before epoch) c.put_epoch.ensures
