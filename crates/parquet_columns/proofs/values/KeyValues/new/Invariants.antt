use Rattle.std.proofs.Common.{take}
use Rattle.parquet_columns.specs.Values.{AreValues}
use Rattle.parquet_columns.proofs.values.KeyValues.new.Given as goal

abbrev pub invariant-pairs : goal.invariant-pairs
invariant-pairs l = AreValues (take l.pair-index l.pairs) l.last
