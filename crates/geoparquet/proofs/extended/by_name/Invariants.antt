use Rattle.std.proofs.Common.{◌≡◌, drop}
use Rattle.json.specs.Find.{get_member, later_or}
use Rattle.json.specs.Value.{members_view}
use Rattle.arrow_values.specs.Tree.{Text}
use Rattle.geoparquet.specs.GeoColumns.{value_in}
use Rattle.geoparquet.proofs.extended.by_name.Given as goal

-- of the members that are still to come the last of a name counts, and else what the map has
abbrev pub invariant-loop-member : goal.invariant-loop-member
invariant-loop-member l = (name : Text) → later_or (get_member name (members_view (drop l.member-index l.members))) (value_in l.values name) ≡ get_member name (members_view l.members)
