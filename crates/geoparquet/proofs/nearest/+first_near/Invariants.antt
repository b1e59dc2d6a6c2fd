use Rattle.std.proofs.Common.{length}
use Rattle.geoparquet.proofs.nearest.+first_near.Given as goal

abbrev pub decreases-first_near : goal.decreases-first_near
decreases-first_near l = length l.names.now
