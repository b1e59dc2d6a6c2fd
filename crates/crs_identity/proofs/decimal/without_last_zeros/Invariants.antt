use Rattle.std.proofs.Common.{◌≡◌, ◌≤◌, length}
use Rattle.crs_identity.specs.Decimals.{without_last_zeros}
use Rattle.crs_identity.proofs.decimal.without_last_zeros.Given as goal

abbrev pub invariant-zeros : goal.invariant-zeros
invariant-zeros l = record {
  same : without_last_zeros l.rest ≡ without_last_zeros l.digits;
  fewer : length l.rest ≤ length l.digits;
}

abbrev pub decreases-zeros : goal.decreases-zeros
decreases-zeros l = length l.rest
