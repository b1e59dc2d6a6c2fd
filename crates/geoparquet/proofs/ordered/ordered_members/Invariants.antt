use Rattle.std.proofs.Common.{◌≡◌, drop}
use Rattle.json.specs.Value.{members_view}
use Rattle.geoparquet.specs.Ordered.{ordered_members, put_members, members_entries}
use Rattle.geoparquet.proofs.ordered.ordered_members.Given as goal

-- the members that are still to come, put behind those that were
abbrev pub invariant-loop-member : goal.invariant-loop-member
invariant-loop-member l = put_members (members_view (drop l.member-index l.members)) (members_entries l.made.entries) ≡ ordered_members (members_view l.members)
