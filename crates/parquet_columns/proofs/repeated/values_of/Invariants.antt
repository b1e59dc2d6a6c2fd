use Rattle.std.proofs.Common.{◌≡◌, map, flat_map, take}
use Rattle.parquet_footer.specs.Spelled.{spelled}
use Rattle.parquet_footer.specs.Footer.{pairing}
use Rattle.parquet_columns.specs.Findings.{values_in}
use Rattle.parquet_columns.proofs.repeated.values_of.Given as goal

abbrev pub invariant-loop-pair : goal.invariant-loop-pair
invariant-loop-pair l = map spelled l.values.items ≡ flat_map (values_in l.key) (map pairing (take l.pair-index l.pairs))
