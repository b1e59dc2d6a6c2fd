use Rattle.std.proofs.Common.{length}
use Rattle.geoparquet.proofs.covering.+first_astray.Given as goal

abbrev pub decreases-first_astray : goal.decreases-first_astray
decreases-first_astray l = length l.bounds.now
