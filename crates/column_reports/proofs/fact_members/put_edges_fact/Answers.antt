use Rattle.std.proofs.Common.{codes, Some}
use Rattle.std.proofs.lemmas.Result.{on_ok_weaker}
use Rattle.column_reports.specs.Objects.{string_if}
use Rattle.column_reports.proofs.Adding.{then, for}
use Rattle.column_reports.proofs.fact_members.put_edges_fact.Goals as goal

pub returns : goal.returns
returns c =
    let edges = for (λ s. string_if (codes "edges") (Some s)) c.in_ok-put_text.ensures c.as_str.ensures.value in
    on_ok_weaker c.put_text-2.result (λ from. then edges (for (λ s. string_if (codes "edges_from") (Some s)) from c.word.ensures)) c.put_text-2.ensures
