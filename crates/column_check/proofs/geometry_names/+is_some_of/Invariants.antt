use Rattle.std.proofs.Common.{length}
use Rattle.column_check.proofs.geometry_names.+is_some_of.Given as goal

abbrev pub decreases-is_some_of : goal.decreases-is_some_of
decreases-is_some_of l = length l.names.now
