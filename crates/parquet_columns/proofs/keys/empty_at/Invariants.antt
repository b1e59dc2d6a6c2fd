use Rattle.std.proofs.Common.{◌≡◌, find, map, drop}
use Rattle.parquet_footer.specs.Footer.{pairing}
use Rattle.parquet_columns.specs.Keys.{has_key}
use Rattle.parquet_columns.proofs.keys.empty_at.Given as goal

abbrev pub invariant-loop-pair : goal.invariant-loop-pair
invariant-loop-pair l = find (has_key l.key) (map pairing (drop l.pair-index l.pairs)) ≡ find (has_key l.key) (map pairing l.pairs)
