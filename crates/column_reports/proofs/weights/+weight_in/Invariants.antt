use Rattle.std.proofs.Common.{length}
use Rattle.column_reports.proofs.weights.+weight_in.Given as goal

abbrev pub decreases-weight_in : goal.decreases-weight_in
decreases-weight_in l = length l.codes.now
