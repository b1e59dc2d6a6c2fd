use Rattle.geoarrow_layout.proofs.Terms.{◌≡◌, ◌↔◌, drop, member_trees, SomeMember}
use Rattle.geoarrow_layout.proofs.alike_types.has_id.Given as goal

abbrev pub invariant-loop-member : goal.invariant-loop-member
invariant-loop-member l = SomeMember (λ i t. i ≡ l.other.0) (member_trees (drop l.member-index l.member-items)) ↔ SomeMember (λ i t. i ≡ l.other.0) (member_trees l.members)
