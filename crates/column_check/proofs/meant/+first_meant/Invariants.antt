use Rattle.std.proofs.Common.{length}
use Rattle.column_check.proofs.meant.+first_meant.Given as goal

abbrev pub decreases-first_meant : goal.decreases-first_meant
decreases-first_meant l = length l.names.now
