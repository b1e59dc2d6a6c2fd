use Rattle.geoarrow_layout.proofs.Terms.{◌≡◌, ◌++◌, take, members_over}
use Rattle.geoarrow_layout.proofs.write.push_over.Given as goal

abbrev pub invariant-loop-kind : goal.invariant-loop-kind
invariant-loop-kind l = l.members.items ≡ l.fn.members.items ++ members_over (take l.kind-index l.kinds) l.leaf.0 l.leaf.1
