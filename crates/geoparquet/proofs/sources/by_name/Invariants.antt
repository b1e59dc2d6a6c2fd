use Rattle.std.proofs.Common.{map, take}
use Rattle.geoparquet.specs.Sources.{AreElements, sourced}
use Rattle.geoparquet.proofs.sources.by_name.Given as goal

abbrev pub invariant-sources : goal.invariant-sources
invariant-sources l = AreElements (map sourced (take l.it-index l.all)) l.named
