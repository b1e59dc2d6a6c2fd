use Rattle.std.proofs.Common.{refl, arith}
use Rattle.json.specs.Tree.{depth, items_depth, members_depth}
use Rattle.json.specs.Value.{items_view, members_view, value_view}
use Rattle.column_check.proofs.Ways.{nests}
use Rattle.column_check.proofs.not_whole.+search.Goals as goal

pub first_of_items-first_not_whole-requires : goal.first_of_items-first_not_whole-requires
first_of_items-first_not_whole-requires t c =
    let low = nests (λ x. depth (value_view x)) (λ xs. items_depth (items_view xs)) (λ x xs. refl) _ _ _ c.deref-item-items.ensures.value c.loop-i-test.true c.item-item.is in
    (omega arith, tt)

pub first_of_members-first_not_whole-requires : goal.first_of_members-first_not_whole-requires
first_of_members-first_not_whole-requires t c =
    let low = nests (λ m. depth (value_view m.1)) (λ ms. members_depth (members_view ms)) (λ m ms. refl) _ _ _ c.deref-member-items.ensures.value c.loop-i-test.true c.member-item.is in
    (omega arith, tt)
