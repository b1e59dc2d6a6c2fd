use Rattle.std.proofs.Common.{◌≡◌, ◌||◌}
use Rattle.arrow_values.specs.Tree.{Text}
use Rattle.geoparquet.specs.Ordered.{members_entries}
use Rattle.geoparquet.specs.RepeatedKeys.{has_key}
use Rattle.geoparquet.specs.Undeclared.{is_covered}
use Rattle.geoparquet.proofs.covered.covered_by.Given as goal

-- what the members that are left name, or what those before them name
abbrev pub invariant-loop-member : goal.invariant-loop-member
invariant-loop-member l = (name : Text) → is_covered name (members_entries l.member-iterator) || has_key l.names name ≡ is_covered name (members_entries l.members.entries)
