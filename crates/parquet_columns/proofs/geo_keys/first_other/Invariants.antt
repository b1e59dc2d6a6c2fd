use Rattle.std.proofs.Common.{◌≡◌, find, map, drop}
use Rattle.parquet_footer.specs.Footer.{pairing}
use Rattle.parquet_columns.specs.GeoKeys.{is_other_geo}
use Rattle.parquet_columns.proofs.geo_keys.first_other.Given as goal

abbrev pub invariant-loop-pair : goal.invariant-loop-pair
invariant-loop-pair l = find is_other_geo (map pairing (drop l.pair-index l.pairs)) ≡ find is_other_geo (map pairing l.pairs)
