use Rattle.std.proofs.Common.{◌≡◌, flat_map}
use Rattle.column_reports.specs.Gathered.{if_first}
use Rattle.column_reports.proofs.gathered.of_geo.Given as goal

abbrev pub invariant-loop-finding : goal.invariant-loop-finding
invariant-loop-finding l = l.all.items ≡ flat_map (if_first l.said l.version) l.yielded
