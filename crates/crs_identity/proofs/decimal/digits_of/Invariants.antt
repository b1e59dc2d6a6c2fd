use Rattle.std.proofs.Common.{◌≡◌, ◌++◌, drop}
use Rattle.crs_identity.proofs.decimal.digits_of.Given as goal

abbrev pub invariant-loop-b : goal.invariant-loop-b
invariant-loop-b l = l.digits.items ++ drop l.b-index l.b-items ≡ l.parts.whole ++ l.parts.fraction
