use Rattle.std.proofs.Common.{length}
use Rattle.geoparquet.proofs.covering.+have_paths.Given as goal

abbrev pub decreases-have_paths : goal.decreases-have_paths
decreases-have_paths l = length l.bounds.now
