use Rattle.std.proofs.Common.{◌≡◌, ◌-◌, map}
use Rattle.parquet_footer.specs.Footer.{pairing, key_value_at}
use Rattle.parquet_footer.specs.Footer.{all_at}
use Rattle.parquet_footer.proofs.Lists.{with_front}
use Rattle.parquet_footer.proofs.footer.key_values_at.Given as goal

abbrev pub invariant-structs : goal.invariant-structs
invariant-structs l = with_front (map pairing l.found.items) (all_at (key_value_at l.size) (l.count - l.i) l.rest) ≡ all_at (key_value_at l.size) l.count l.bytes
