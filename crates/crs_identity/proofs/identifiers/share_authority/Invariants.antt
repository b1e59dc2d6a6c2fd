use Rattle.std.proofs.Common.{◌≡◌, drop, map}
use Rattle.crs_identity.specs.Identifiers.{name_of, share_authority}
use Rattle.crs_identity.proofs.identifiers.share_authority.Given as goal

abbrev pub invariant-loop-identifier : goal.invariant-loop-identifier
invariant-loop-identifier l = share_authority (map name_of (drop l.identifier-index l.a)) (map name_of l.b) ≡ share_authority (map name_of l.a) (map name_of l.b)
