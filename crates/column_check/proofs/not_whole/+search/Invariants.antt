use Rattle.std.proofs.Common.{◌≡◌, ◌+◌, ◌*◌, drop}
use Rattle.json.specs.Tree.{depth, items_depth, members_depth}
use Rattle.json.specs.Value.{items_view, members_view, value_view}
use Rattle.column_check.specs.NotWhole.{first_of_items, first_of_members, place_text}
use Rattle.column_check.proofs.not_whole.+search.Given as goal

-- what is left decides
abbrev pub invariant-first_of_items-loop-i : goal.invariant-first_of_items-loop-i
invariant-first_of_items-loop-i l =
    first_of_items (place_text l.place) l.i (items_view (drop l.i l.items.items)) ≡ first_of_items (place_text l.place) 0 (items_view l.items.items)

abbrev pub invariant-first_of_members-loop-i : goal.invariant-first_of_members-loop-i
invariant-first_of_members-loop-i l =
    first_of_members (place_text l.place) (members_view (drop l.i l.members.items)) ≡ first_of_members (place_text l.place) (members_view l.members.items)

abbrev pub decreases-first_not_whole : goal.decreases-first_not_whole
decreases-first_not_whole l = 2 * depth (value_view l.value.now)

abbrev pub decreases-first_of_items : goal.decreases-first_of_items
decreases-first_of_items l = 2 * items_depth (items_view l.items.now.items) + 1

abbrev pub decreases-first_of_members : goal.decreases-first_of_members
decreases-first_of_members l = 2 * members_depth (members_view l.members.now.items) + 1
