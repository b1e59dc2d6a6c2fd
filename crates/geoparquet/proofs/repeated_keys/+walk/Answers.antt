use Rattle.std.proofs.Common.{◌≡◌, ◌++◌, ◌∷◌, [], refl, sym, ap, subst, ◌∙◌, arith}
use Rattle.std.proofs.lemmas.Result.{on_ok_weaker}
use Rattle.json.specs.Json.{array, object}
use Rattle.json.specs.Tree.{depth, items_depth, members_depth}
use Rattle.json.specs.Value.{items_view, members_view, value_view}
use Rattle.json.proofs.Trees.{view-Array, view-Object}
use Rattle.geoparquet.specs.Ordered.{ordered_members}
use Rattle.geoparquet.specs.RepeatedKeys.{index, key, AreTold, own_findings, repeated_in, repeated_in_items, repeated_in_members, steps_on}
use Rattle.geoparquet.proofs.Telling.{nests, told_both, told_next}
use Rattle.geoparquet.proofs.repeated_keys.+walk.Goals as goal

-- ---- what is inside nests less deep

pub add_in-add_in_items-requires : goal.add_in-add_in_items-requires
add_in-add_in_items-requires t c =
    let whole : depth (value_view c.args.value.now) ≡ depth (array (items_view c.in-Array.items.items)) = ap depth (ap value_view c.in-Array.is ∙ view-Array c.in-Array.items) in
    (omega arith, tt)

pub add_in-add_in_members-requires : goal.add_in-add_in_members-requires
add_in-add_in_members-requires t c =
    let whole : depth (value_view c.args.value.now) ≡ depth (object (members_view c.in-Object.members.items)) = ap depth (ap value_view c.in-Object.is ∙ view-Object c.in-Object.members) in
    (omega arith, tt)

pub add_in_items-add_in-requires : goal.add_in_items-add_in-requires
add_in_items-add_in-requires t c =
    let low = nests (λ x. depth (value_view x)) (λ xs. items_depth (items_view xs)) (λ x xs. refl) _ _ _ c.deref-item-items.ensures.value c.loop-i-test.true c.item-item.is in
    (omega arith, tt)

pub add_in_members-add_in-requires : goal.add_in_members-add_in-requires
add_in_members-add_in-requires t c =
    let low = nests (λ m. depth (value_view m.1)) (λ ms. members_depth (members_view ms)) (λ m ms. refl) _ _ _ c.deref-member-items.ensures.value c.loop-member-test.true c.member-item.is in
    (omega arith, tt)

-- ---- what is found

pub add_in-returns-in_ok-add_own-in-Object : goal.add_in-returns-in_ok-add_own-in-Object
add_in-returns-in_ok-add_own-in-Object t c =
    let way = steps_on c.args.way.now in
    let old = c.args.findings.now.items in
    let between = c.add_own.new.findings.items in
    let new = c.add_in_members.new.findings.items in
    let ms = members_view c.in-Object.members.items in
    let seen : value_view c.args.value.now ≡ object ms = ap value_view c.in-Object.is ∙ view-Object c.in-Object.members in
    let own = subst (λ xs. AreTold old between (own_findings way (members_view xs) (ordered_members (members_view xs)))) c.as_slice.ensures.value c.in_ok-add_own-in-Object.ensures in
    on_ok_weaker c.add_in_members.result
    (λ below. subst (λ j. AreTold old new (repeated_in way j)) (sym seen) (told_both old between new (own_findings way ms (ordered_members ms)) (repeated_in_members way ms) own below))
    c.add_in_members.ensures

pub add_in_items-loop-i-preserved : goal.add_in_items-loop-i-preserved
add_in_items-loop-i-preserved t c =
    let way = steps_on c.args.way.now in
    told_next (λ i x. repeated_in (way ++ index i ∷ []) (value_view x)) (λ i xs. repeated_in_items way i (items_view xs)) (λ i x xs. refl) c.loop-i.findings.items c.add_in.new.findings.items _ c.loop-i.i _
    c.deref-item-items.ensures.value c.item-item.is c.loop-i-test.true c.in_ok-add_in.ensures
    ∙ c.loop-i.invariant

pub add_in_members-loop-member-preserved : goal.add_in_members-loop-member-preserved
add_in_members-loop-member-preserved t c =
    let way = steps_on c.args.way.now in
    told_next (λ i m. repeated_in (way ++ key m.0.now ∷ []) (value_view m.1)) (λ i ms. repeated_in_members way (members_view ms)) (λ i m ms. refl) c.loop-member.findings.items c.add_in.new.findings.items _ c.loop-member.member-index _
    refl c.member-item.is c.loop-member-test.true c.in_ok-add_in.ensures
    ∙ c.loop-member.invariant
