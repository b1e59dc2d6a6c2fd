use Rattle.geoarrow_layout.proofs.Lemmas.{subst, rules, to_z-of_z, sym, AddsBits, Member, GeometryMember, MemberFault, GeometryMemberFault, geometry_member_first, geometry_member_sole, seen_more, seen_none, fault_next}
use Rattle.geoarrow_layout.proofs.summary.root_union.Goals as goal

pub loop-item-init : goal.loop-item-init
loop-item-init c = record { seen = seen_none GeometryMember GeometryMemberFault _ _ _ _ (search rules) (search rules) (search rules) (search rules); mixed = tt }

pub loop-item-preserved : goal.loop-item-preserved
loop-item-preserved c =
    let told = c.member-part.ensures c.item-item.result.1.tree (rw c.data_type.ensures at c.member_summary-below.ensures) in
    record {
      seen = seen_more GeometryMember GeometryMemberFault geometry_member_first geometry_member_sole _ _ _ _ _ _ _ _ c.member-part.result _ c.loop-item.item-index c.item-item.result _
          c.loop-item-test.true c.item-item.is (search (rules, to_z-of_z)) told (subst (AddsBits c.loop-item.seen.ids _) (sym c.with_member-seen.ensures.ids) c.with_id.ensures)
          c.with_member-seen.ensures.coord_types c.with_member-seen.ensures.dimensions c.with_member-seen.ensures.fault c.loop-item.invariant.seen;
      mixed = fault_next Member MemberFault _ _ _ _ c.loop-item.item-index c.item-item.result _ c.loop-item-test.true c.item-item.is (search (rules, to_z-of_z))
          (c.in_collection.ensures c.item-item.result.1.tree told) c.first_fault-mixed_fault.ensures c.loop-item.invariant.mixed;
    }
