use Rattle.std.proofs.Common.{◌≡◌, drop}
use Rattle.std.specs.Slice.Iter.{iter_rest}
use Rattle.json.specs.Value.{items_view, members_view}
use Rattle.geoparquet.specs.RepeatedKeys.{items_are_one, members_are_one}
use Rattle.geoparquet.proofs.same_values.+same.Given as goal

-- what is left on either side decides
abbrev pub invariant-items_are_one-loop-x : goal.invariant-items_are_one-loop-x
invariant-items_are_one-loop-x l = items_are_one (items_view l.a.items) (items_view l.b.items) ≡ items_are_one (items_view (drop l.x-index l.x-items)) (items_view (iter_rest l.others))

abbrev pub invariant-members_are_one-loop-x : goal.invariant-members_are_one-loop-x
invariant-members_are_one-loop-x l = members_are_one (members_view l.a.items) (members_view l.b.items) ≡ members_are_one (members_view (drop l.x-index l.x-items)) (members_view (iter_rest l.others))
