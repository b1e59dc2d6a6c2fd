use Rattle.std.proofs.Common.{map, subst, sym, arith}
use Rattle.std.proofs.lemmas.List.{length-map}
use Rattle.std.proofs.lemmas.List.Elements.{All-get_or}
use Rattle.json.specs.Value.{value_view}
use Rattle.value_tokens.specs.Values.{IsReadable}
use Rattle.geoparquet.specs.Contradictions.{goes_with}
use Rattle.geoparquet.specs.declared.code.GeoCode.TheVariants.{TypesContradict}
use Rattle.geoparquet.proofs.Items.{all_items, one_item, value_at}
use Rattle.geoparquet.proofs.contradictions.add_types_beside.Goals as goal

pub add_type_beside-requires : goal.add_type_beside-requires
add_type_beside-requires c =
    let vs = c.args.items.now in
    let at = value_at vs c.loop-index.index c.index-items-index.result c.loop-index-test.true c.index-items-index.is in
    subst IsReadable (sym at.1) (All-get_or IsReadable (map value_view vs) c.loop-index.index (value_view c.index-items-index.result) at.0 c.requires)

pub loop-index-preserved : goal.loop-index-preserved
loop-index-preserved c =
    let vs = c.args.items.now in
    let at = value_at vs c.loop-index.index c.index-items-index.result c.loop-index-test.true c.index-items-index.is in
    one_item (goes_with c.args.kind c.args.dimension) TypesContradict c.args.key.now c.args.place.now (map value_view vs) _ _ _ c.loop-index.index (value_view c.index-items-index.result) at.0 at.1
    c.in_ok-add_type_beside.ensures c.loop-index.invariant

pub returns : goal.returns
returns c =
    let vs = c.args.items.now in
    all_items (goes_with c.args.kind c.args.dimension) TypesContradict c.args.key.now c.args.place.now (map value_view vs) _ _ c.loop-index.index (omega (arith, length-map vs value_view)) c.loop-index.invariant
