use Rattle.std.proofs.Common.{ap, map, ◌++◌, ◌∙◌, arith}
use Rattle.json.specs.Value.{value_view}
use Rattle.geoparquet.specs.Findings.{finding}
use Rattle.geoparquet.specs.Rules.{item_finding, unless}
use Rattle.geoparquet.specs.TypeRules.{is_without_m}
use Rattle.geoparquet.specs.declared.code.GeoCode.TheVariants.{TypesVersion}
use Rattle.geoparquet.proofs.Items.{one_item, readable_at, value_at}
use Rattle.geoparquet.proofs.types.add_with_m.Goals as goal

pub add_item-requires : goal.add_item-requires
add_item-requires c = readable_at c.args.items.now c.loop-index.index c.index-items-index.result (omega arith) c.index-items-index.is c.requires

pub loop-index-preserved : goal.loop-index-preserved
loop-index-preserved c =
    let js = map value_view c.args.items.now in
    let i = c.loop-index.index in
    let now = map finding c.loop-index.findings.items in
    let j = value_view c.index-items-index.result in
    let here = value_at c.args.items.now i c.index-items-index.result (omega arith) c.index-items-index.is in
    let key = c.args.key.now in
    let place = c.args.place.now in
    let same = c.in_ok-add_item.ensures ∙ ap (λ b. now ++ unless b (item_finding TypesVersion key place i j)) c.is_without_m-kept.ensures in
    one_item is_without_m TypesVersion key place js (map finding c.args.findings.now.items) now _ i j here.0 here.1 same c.loop-index.invariant
