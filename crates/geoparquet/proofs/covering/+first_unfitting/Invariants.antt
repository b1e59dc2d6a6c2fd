use Rattle.std.proofs.Common.{length}
use Rattle.geoparquet.proofs.covering.+first_unfitting.Given as goal

abbrev pub decreases-first_unfitting : goal.decreases-first_unfitting
decreases-first_unfitting l = length l.bounds.now
