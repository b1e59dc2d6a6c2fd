use Rattle.std.proofs.Common.{◌≡◌, ◌++◌}
use Rattle.column_reports.proofs.gathered.add_behind.Given as goal

abbrev pub invariant-loop-finding : goal.invariant-loop-finding
invariant-loop-finding l = l.all.items ≡ l.initial.all.items ++ l.yielded
