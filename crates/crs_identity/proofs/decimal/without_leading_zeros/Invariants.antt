use Rattle.std.proofs.Common.{◌≡◌, length}
use Rattle.crs_identity.specs.Decimals.{without_leading_zeros}
use Rattle.crs_identity.proofs.decimal.without_leading_zeros.Given as goal

abbrev pub invariant-zeros : goal.invariant-zeros
invariant-zeros l = without_leading_zeros l.rest ≡ without_leading_zeros l.digits

abbrev pub decreases-zeros : goal.decreases-zeros
decreases-zeros l = length l.rest
