use Rattle.std.proofs.Common.{length}
use Rattle.column_check.proofs.meant.+rests.Given as goal

abbrev pub decreases-rests : goal.decreases-rests
decreases-rests l = length l.one.now
