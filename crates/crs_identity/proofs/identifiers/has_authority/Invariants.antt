use Rattle.std.proofs.Common.{◌≡◌, drop, map}
use Rattle.crs_identity.specs.Identifiers.{has_authority, name_of}
use Rattle.crs_identity.proofs.identifiers.has_authority.Given as goal

abbrev pub invariant-loop-other : goal.invariant-loop-other
invariant-loop-other l = has_authority (map name_of (drop l.other-index l.others)) (name_of l.identifier) ≡ has_authority (map name_of l.others) (name_of l.identifier)
