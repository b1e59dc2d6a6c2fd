use Rattle.std.proofs.Common.{◌≡◌, ◌+◌, ◌*◌, ◌++◌, drop, map}
use Rattle.json.specs.Tree.{depth, items_depth, members_depth}
use Rattle.json.specs.Value.{items_view, members_view, value_view}
use Rattle.geoparquet.specs.Findings.{finding}
use Rattle.geoparquet.specs.RepeatedKeys.{repeated_in_items, repeated_in_members, steps_on, told}
use Rattle.geoparquet.proofs.repeated_keys.+walk.Given as goal

-- what is found so far, and what will be in what is left
abbrev pub invariant-add_in_items-loop-i : goal.invariant-add_in_items-loop-i
invariant-add_in_items-loop-i l =
    told (map finding l.findings.items ++ repeated_in_items (steps_on l.way) l.i (items_view (drop l.i l.items.items)))
    ≡ told (map finding l.fn.findings.items ++ repeated_in_items (steps_on l.way) 0 (items_view l.items.items))

abbrev pub invariant-add_in_members-loop-member : goal.invariant-add_in_members-loop-member
invariant-add_in_members-loop-member l =
    told (map finding l.findings.items ++ repeated_in_members (steps_on l.way) (members_view (drop l.member-index l.member-items)))
    ≡ told (map finding l.fn.findings.items ++ repeated_in_members (steps_on l.way) (members_view l.members.items))

abbrev pub decreases-add_in : goal.decreases-add_in
decreases-add_in l = 2 * depth (value_view l.value.now)

abbrev pub decreases-add_in_items : goal.decreases-add_in_items
decreases-add_in_items l = 2 * items_depth (items_view l.items.now.items) + 1

abbrev pub decreases-add_in_members : goal.decreases-add_in_members
decreases-add_in_members l = 2 * members_depth (members_view l.members.now.items) + 1
