use Rattle.std.proofs.Common.{◌≡◌, map}
use Rattle.file_check.specs.Unmet.{as_error}
use Rattle.file_check.proofs.unmet.as_errors.Given as goal

abbrev pub invariant-loop-finding : goal.invariant-loop-finding
invariant-loop-finding l = l.errors.items ≡ map as_error l.yielded
