use Rattle.std.proofs.Common.{◌≡◌, map}
use Rattle.column_reports.specs.Claims.{without_name}
use Rattle.column_reports.proofs.claims.without_names.Given as goal

abbrev pub invariant-loop-finding : goal.invariant-loop-finding
invariant-loop-finding l = l.made.items ≡ map without_name l.yielded
