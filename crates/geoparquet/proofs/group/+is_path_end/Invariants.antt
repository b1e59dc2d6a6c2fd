use Rattle.std.proofs.Common.{length}
use Rattle.geoparquet.proofs.group.+is_path_end.Given as goal

abbrev pub decreases-is_path_end : goal.decreases-is_path_end
decreases-is_path_end l = length l.bounds.now
