use Rattle.std.proofs.Common.{take}
use Rattle.parquet_columns.proofs.Maps.{next_value, all_values, none_judged}
use Rattle.parquet_columns.proofs.values.KeyValues.new.Goals as goal

pub pairs-preserved : goal.pairs-preserved
pairs-preserved c =
    let ps = c.args.pairs.now in
    let i = c.pairs.pair-index in
    next_value ps i _ c.put_value.new.last c.pairs-test.true (c.in_ok-put_value.ensures (take i ps) c.pairs.invariant)

pub invariant_of-result : goal.invariant_of-result
invariant_of-result c = (all_values c.args.pairs.now c.pairs.pair-index c.pairs.last c.pairs-test.false c.pairs.invariant, none_judged c.args.pairs.now c.new-judged.result c.new-judged.ensures.empty)
