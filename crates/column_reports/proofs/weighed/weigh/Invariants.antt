use Rattle.std.proofs.Common.{◌≡◌}
use Rattle.column_reports.specs.Weighed.{weighed}
use Rattle.column_reports.specs.Weights.{weighing}
use Rattle.column_reports.proofs.weighed.weigh.Given as goal

abbrev pub invariant-loop-finding : goal.invariant-loop-finding
invariant-loop-finding l = l.all.items ≡ weighed (weighing l.weights) l.yielded
