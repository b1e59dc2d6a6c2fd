use Rattle.geoarrow_layout.proofs.Lemmas.{◌≡◌, take, member_trees, AllMembers, MemberIn, Read}
use Rattle.geoarrow_layout.proofs.fault.push_place.Given as goal

abbrev pub invariant-loop-place : goal.invariant-loop-place
invariant-loop-place l = record {
  read : AllMembers (Read (MemberIn l.collections)) (member_trees (take l.place l.members));
  same : l.path.items ≡ l.fn.path.items;
}
