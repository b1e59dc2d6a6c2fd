use Rattle.std.proofs.Common.{length}
use Rattle.column_check.proofs.coordinates.+have_each.Given as goal

abbrev pub decreases-have_each : goal.decreases-have_each
decreases-have_each l = length l.others.now
