use Rattle.geoarrow_layout.proofs.Terms.{take, member_trees, Member, MemberFault, Seen}
use Rattle.geoarrow_layout.proofs.summary.inner_union.Given as goal

abbrev pub invariant-loop-item : goal.invariant-loop-item
invariant-loop-item l = Seen Member MemberFault l.seen.ids l.seen.coord_types l.seen.dimensions l.seen.fault (member_trees (take l.item-index l.members))
