use Rattle.std.proofs.Common.{◌≡◌, drop}
use Rattle.std.specs.Slice.Iter.{iter_rest}
use Rattle.json.specs.Value.{items_view, members_view, value_view}
use Rattle.crs_identity.specs.Equality.{equal_items, equal_members}
use Rattle.crs_identity.proofs.equality.+equal.Given as goal

-- what is left on either side decides
abbrev pub invariant-equal_items-loop-x : goal.invariant-equal_items-loop-x
invariant-equal_items-loop-x l = equal_items (items_view l.a.items) (items_view l.b.items) ≡ equal_items (items_view (drop l.x-index l.x-items)) (items_view (iter_rest l.others))

abbrev pub invariant-equal_members-loop-i : goal.invariant-equal_members-loop-i
invariant-equal_members-loop-i l = equal_members (members_view (drop l.i l.a.items)) (value_view l.b) ≡ equal_members (members_view l.a.items) (value_view l.b)
