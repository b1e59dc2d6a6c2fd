use Rattle.geoarrow_layout.proofs.Terms.{◌≡◌, ◌↔◌, ◌+◌, ◌*◌, drop, tree, member_trees, members_size, depth, AllMembers, SomeMember, Alike, EachHasAlike, HasAlike}
use Rattle.geoarrow_layout.proofs.alike_types.+same.Given as goal

abbrev pub invariant-all_are_met-loop-other : goal.invariant-all_are_met-loop-other
invariant-all_are_met-loop-other l = AllMembers (HasAlike (member_trees l.members)) (member_trees (drop l.other-index l.other-items)) ↔ AllMembers (HasAlike (member_trees l.members)) (member_trees l.others)

abbrev pub invariant-any_same-loop-id : goal.invariant-any_same-loop-id
invariant-any_same-loop-id l =
    SomeMember (λ j u. (l.member.0 ≡ j) × Alike l.member.1.tree u) (member_trees (drop l.id-index l.id-items)) ↔ SomeMember (λ j u. (l.member.0 ≡ j) × Alike l.member.1.tree u) (member_trees l.others)

abbrev pub invariant-each_has_same-loop-member : goal.invariant-each_has_same-loop-member
invariant-each_has_same-loop-member l = EachHasAlike (member_trees (drop l.member-index l.member-items)) (member_trees l.others) ↔ EachHasAlike (member_trees l.members) (member_trees l.others)

-- a call goes down one of the two trees, and a function that calls another on the same ones stands above it
abbrev pub decreases-same : goal.decreases-same
decreases-same l = 2 * (depth (tree l.a.now) + depth (tree l.b.now))

abbrev pub decreases-each_has_same : goal.decreases-each_has_same
decreases-each_has_same l = 2 * (members_size l.members.now + members_size l.others.now)

abbrev pub decreases-any_same : goal.decreases-any_same
decreases-any_same l = 2 * (depth l.member.now.1.tree + members_size l.others.now)

abbrev pub decreases-all_are_met : goal.decreases-all_are_met
decreases-all_are_met l = 2 * (members_size l.members.now + members_size l.others.now)

abbrev pub decreases-is_met : goal.decreases-is_met
decreases-is_met l = 2 * (depth l.other.now.1.tree + members_size l.members.now) + 1
