use Rattle.geoarrow_layout.proofs.Lemmas.{subst, tree, rules, to_z-of_z, sym, AddsBits, Member, MemberFault, member_first, member_sole, seen_more, seen_none}
use Rattle.geoarrow_layout.proofs.summary.inner_union.Goals as goal

pub loop-item-init : goal.loop-item-init
loop-item-init c = seen_none Member MemberFault _ _ _ _ (search rules) (search rules) (search rules) (search rules)

pub loop-item-preserved : goal.loop-item-preserved
loop-item-preserved c =
    seen_more Member MemberFault member_first member_sole _ _ _ _ _ _ _ _ c.member-part.result _ c.loop-item.item-index c.item-item.result _ c.loop-item-test.true c.item-item.is (search (rules, to_z-of_z))
    (c.member-part.ensures c.item-item.result.1.tree (tree c.below_lists-below.result.rest.now, rw c.data_type.ensures at c.below_lists-below.ensures.levels, c.leaf_bottom.ensures))
    (subst (AddsBits c.loop-item.seen.ids _) (sym c.with_member-seen.ensures.ids) c.with_id.ensures) c.with_member-seen.ensures.coord_types c.with_member-seen.ensures.dimensions c.with_member-seen.ensures.fault c.loop-item.invariant
