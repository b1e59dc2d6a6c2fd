use Rattle.std.proofs.Common.{◌++◌, List, get_or, map, ap, ◌∙◌, append_assoc}
use Rattle.std.proofs.lemmas.Result.{on_ok_weaker}
use Rattle.json.specs.Json.{Json, null}
use Rattle.json.specs.Value.{value_view}
use Rattle.geoparquet.specs.BoxRange.{bound_range_findings, latitude_limit, longitude_limit, pair_range_findings}
use Rattle.geoparquet.specs.Findings.{Finding, finding}
use Rattle.geoparquet.proofs.Items.{item_got, readable_at}
use Rattle.geoparquet.proofs.box_range.add_pair.Goals as goal

pub add_longitude-requires : goal.add_longitude-requires
add_longitude-requires c = readable_at c.args.numbers.now c.args.x c.index-numbers-x.result c.requires.x c.index-numbers-x.is c.requires.readable

pub add_latitude-requires : goal.add_latitude-requires
add_latitude-requires c = readable_at c.args.numbers.now c.args.y c.index-numbers-y.result c.requires.y c.index-numbers-y.is c.requires.readable

pub returns : goal.returns
unfolding pair_range_findings
returns c =
    let vs = c.args.numbers.now in
    let now = map finding c.args.findings.now.items in
    let east = value_view c.index-numbers-x.result in
    let north = value_view c.index-numbers-y.result in
    let A : Json → List Finding = λ j. bound_range_findings longitude_limit c.args.key.now c.args.x j in
    let B : Json → List Finding = λ j. bound_range_findings latitude_limit c.args.key.now c.args.y j in
    let x = item_got vs c.args.x c.index-numbers-x.result c.requires.x c.index-numbers-x.is in
    let y = item_got vs c.args.y c.index-numbers-y.result c.requires.y c.index-numbers-y.is in
    on_ok_weaker c.add_latitude.result (λ added.
    added ∙ ap (λ fs. fs ++ B north) c.in_ok-add_longitude.ensures
    ∙ append_assoc now (A east) (B north)
    ∙ ap (λ j. now ++ (A j ++ B north)) x
    ∙ ap (λ j. now ++ (A (get_or (map value_view vs) c.args.x null) ++ B j)) y)
    c.add_latitude.ensures
