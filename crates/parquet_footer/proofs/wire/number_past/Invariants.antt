use Rattle.std.proofs.Common.{◌≡◌, ◌-◌, ◌+◌}
use Rattle.parquet_footer.specs.Wire.{number_past}
use Rattle.parquet_footer.proofs.wire.number_past.Given as goal

abbrev pub invariant-groups : goal.invariant-groups
invariant-groups l = number_past (l.most + 1 - l.i) l.rest ≡ number_past l.most l.bytes
