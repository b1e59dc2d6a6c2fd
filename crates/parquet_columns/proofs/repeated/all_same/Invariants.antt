use Rattle.std.proofs.Common.{◌≡◌, map, drop}
use Rattle.parquet_footer.specs.Spelled.{spelled}
use Rattle.parquet_columns.specs.Findings.{all_same}
use Rattle.parquet_columns.proofs.repeated.all_same.Given as goal

abbrev pub invariant-loop-value : goal.invariant-loop-value
invariant-loop-value l = all_same (spelled l.one) (map spelled (drop l.value-index l.values)) ≡ all_same (spelled l.one) (map spelled l.values)
