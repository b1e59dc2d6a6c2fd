use Rattle.std.proofs.Common.{◌≡◌, drop}
use Rattle.json.specs.Value.{members_view}
use Rattle.crs_identity.specs.Equality.{has_keys}
use Rattle.crs_identity.proofs.equality.has_keys.Given as goal

abbrev pub invariant-loop-member : goal.invariant-loop-member
invariant-loop-member l = has_keys (members_view (drop l.member-index l.a)) (members_view l.b) ≡ has_keys (members_view l.a) (members_view l.b)
