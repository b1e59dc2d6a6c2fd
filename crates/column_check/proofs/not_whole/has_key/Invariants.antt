use Rattle.std.proofs.Common.{◌≡◌, drop}
use Rattle.json.specs.Value.{members_view}
use Rattle.crs_identity.specs.Equality.{has_key}
use Rattle.column_check.proofs.not_whole.has_key.Given as goal

abbrev pub invariant-loop-member : goal.invariant-loop-member
invariant-loop-member l = has_key l.key (members_view (drop l.member-index l.members)) ≡ has_key l.key (members_view l.members)
