use Rattle.std.proofs.Common.{map}
use Rattle.json.specs.Value.{value_view}
use Rattle.geoparquet.specs.Findings.{finding}
use Rattle.geoparquet.specs.BoxRules.{is_number}
use Rattle.geoparquet.specs.declared.code.GeoCode.TheVariants.{Bbox}
use Rattle.geoparquet.proofs.Items.{FoundTo}
use Rattle.geoparquet.proofs.boxes.add_numbers.Given as goal

abbrev pub invariant-loop-index : goal.invariant-loop-index
invariant-loop-index l =
    FoundTo (λ before j. is_number j) Bbox l.key l.place (map value_view l.items) (map finding l.fn.findings.items) l.index (map finding l.findings.items)
