use Rattle.same_columns.proofs.Exchanging.{exchange}
use Rattle.same_columns.proofs.laws.differences_are_exchanged.Goals as goal

pub returns : goal.returns
returns c = exchange c.alike_both_ways.ensures c.verdict_is_symmetric.ensures
