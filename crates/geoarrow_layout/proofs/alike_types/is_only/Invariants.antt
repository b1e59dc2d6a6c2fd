use Rattle.geoarrow_layout.proofs.Terms.{◌≡◌, ◌↔◌, drop, member_trees, AllMembers}
use Rattle.geoarrow_layout.proofs.alike_types.is_only.Given as goal

abbrev pub invariant-loop-member : goal.invariant-loop-member
invariant-loop-member l =
    AllMembers (λ i t. i ≡ l.other.0 → t ≡ l.other.1.tree) (member_trees (drop l.member-index l.member-items)) ↔ AllMembers (λ i t. i ≡ l.other.0 → t ≡ l.other.1.tree) (member_trees l.members)
