use Rattle.geoarrow_layout.proofs.Terms.{take, member_trees, Member, GeometryMember, MemberFault, GeometryMemberFault, IsFaultOf, Seen}
use Rattle.geoarrow_layout.proofs.summary.root_union.Given as goal

abbrev pub invariant-loop-item : goal.invariant-loop-item
invariant-loop-item l = record {
  seen : Seen GeometryMember GeometryMemberFault l.seen.ids l.seen.coord_types l.seen.dimensions l.seen.fault (member_trees (take l.item-index l.members));
  mixed : IsFaultOf Member MemberFault l.mixed_fault (member_trees (take l.item-index l.members));
}
