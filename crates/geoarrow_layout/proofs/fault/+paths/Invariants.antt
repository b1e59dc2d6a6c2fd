use Rattle.geoarrow_layout.proofs.Terms.{cond}
use Rattle.geoarrow_layout.proofs.fault.+paths.Given as goal

-- a union stands above its members, a member above its kind, and a collection above its union
abbrev pub decreases-push_native : goal.decreases-push_native
decreases-push_native l = cond l.collections 3 0

abbrev pub decreases-push_member : goal.decreases-push_member
decreases-push_member l = cond l.collections 4 1

abbrev pub decreases-push_union : goal.decreases-push_union
decreases-push_union l = cond l.collections 5 2
