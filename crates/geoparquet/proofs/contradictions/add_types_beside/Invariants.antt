use Rattle.std.proofs.Common.{map}
use Rattle.json.specs.Value.{value_view}
use Rattle.geoparquet.specs.Contradictions.{goes_with}
use Rattle.geoparquet.specs.Findings.{finding}
use Rattle.geoparquet.specs.declared.code.GeoCode.TheVariants.{TypesContradict}
use Rattle.geoparquet.proofs.Items.{FoundTo}
use Rattle.geoparquet.proofs.contradictions.add_types_beside.Given as goal

abbrev pub invariant-loop-index : goal.invariant-loop-index
invariant-loop-index l =
    FoundTo (goes_with l.kind l.dimension) TypesContradict l.key l.place (map value_view l.items) (map finding l.fn.findings.items) l.index (map finding l.findings.items)
