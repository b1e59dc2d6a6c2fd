use Rattle.std.proofs.Common.{◌≡◌}
use Rattle.column_reports.specs.Gathered.{of_footer}
use Rattle.column_reports.proofs.gathered.of_footer.Given as goal

abbrev pub invariant-loop-finding : goal.invariant-loop-finding
invariant-loop-finding l = l.all.items ≡ of_footer l.yielded
