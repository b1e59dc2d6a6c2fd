use Rattle.std.proofs.Common.{map}
use Rattle.json.specs.Value.{value_view}
use Rattle.geoparquet.specs.Findings.{finding}
use Rattle.geoparquet.specs.TypeRules.{is_without_m}
use Rattle.geoparquet.specs.declared.code.GeoCode.TheVariants.{TypesVersion}
use Rattle.geoparquet.proofs.Items.{FoundTo}
use Rattle.geoparquet.proofs.types.add_with_m.Given as goal

abbrev pub invariant-loop-index : goal.invariant-loop-index
invariant-loop-index l =
    FoundTo is_without_m TypesVersion l.key l.place (map value_view l.items) (map finding l.fn.findings.items) l.index (map finding l.findings.items)
