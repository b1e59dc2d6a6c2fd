use Rattle.std.proofs.Common.{option_map}
use Rattle.parquet_footer.specs.Spelled.{spelled}
use Rattle.parquet_columns.proofs.Laters.{LastFrom}
use Rattle.parquet_columns.proofs.keys.value_of.Given as goal

abbrev pub invariant-loop-pair : goal.invariant-loop-pair
invariant-loop-pair l = LastFrom l.key l.pair-items l.pair-index (option_map spelled l.found)
