use Rattle.std.proofs.Common.{◌≡◌, drop, map}
use Rattle.std.specs.List.{list_any}
use Rattle.crs_identity.specs.Identifiers.{is_paired, name_of}
use Rattle.crs_identity.proofs.identifiers.has_pair.Given as goal

abbrev pub invariant-loop-identifier : goal.invariant-loop-identifier
invariant-loop-identifier l = list_any is_paired (map name_of (drop l.identifier-index l.found)) ≡ list_any is_paired (map name_of l.found)
