use Rattle.std.proofs.Common.{codes}
use Rattle.std.proofs.lemmas.Result.{on_ok_weaker}
use Rattle.column_reports.specs.FactMembers.{against_if}
use Rattle.column_reports.proofs.Adding.{then, for}
use Rattle.column_reports.proofs.fact_members.put_facts.Goals as goal

pub returns : goal.returns
returns c =
    let crs = for (against_if (codes "crs")) c.in_ok-put_against.ensures c.crs_against.ensures in
    let edges = for (against_if (codes "edges")) c.in_ok-put_against-2.ensures c.edges_against.ensures in
    on_ok_weaker c.put_against-3.result (λ encoding. then (then crs edges) (for (against_if (codes "encoding")) encoding c.encoding_against.ensures)) c.put_against-3.ensures
