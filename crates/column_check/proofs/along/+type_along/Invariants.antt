use Rattle.std.proofs.Common.{length}
use Rattle.column_check.proofs.along.+type_along.Given as goal

abbrev pub decreases-type_along : goal.decreases-type_along
decreases-type_along l = length l.path.now
