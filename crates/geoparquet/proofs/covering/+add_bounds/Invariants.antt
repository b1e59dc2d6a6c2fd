use Rattle.std.proofs.Common.{length}
use Rattle.geoparquet.proofs.covering.+add_bounds.Given as goal

abbrev pub decreases-add_bounds : goal.decreases-add_bounds
decreases-add_bounds l = length l.bounds.now
