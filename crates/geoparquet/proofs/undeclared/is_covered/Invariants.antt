use Rattle.std.proofs.Common.{◌≡◌}
use Rattle.geoparquet.specs.Ordered.{members_entries}
use Rattle.geoparquet.specs.Undeclared.{is_covered}
use Rattle.geoparquet.proofs.undeclared.is_covered.Given as goal

-- the members that are left decide
abbrev pub invariant-loop-member : goal.invariant-loop-member
invariant-loop-member l = is_covered l.name (members_entries l.members.entries) ≡ is_covered l.name (members_entries l.member-iterator)
