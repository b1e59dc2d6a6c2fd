use Rattle.std.proofs.Common.{◌≡◌, ◌++◌, OnOk, get_or, map, subst}
use Rattle.json.specs.Json.{Json, null}
use Rattle.json.specs.Value.{value_view}
use Rattle.geoparquet.specs.BoxRules.{bound_findings}
use Rattle.geoparquet.specs.Findings.{finding}
use Rattle.geoparquet.proofs.Items.{item_got, readable_at}
use Rattle.geoparquet.proofs.boxes.add_axis.Goals as goal

pub add_bound-requires : goal.add_bound-requires
add_bound-requires c = readable_at c.args.numbers.now c.args.least c.index-numbers-least.result c.requires.low c.index-numbers-least.is c.requires.readable

pub returns : goal.returns
returns c =
    let vs = c.args.numbers.now in
    let now = map finding c.args.findings.now.items in
    let new = map finding c.add_bound.new.findings.items in
    let low = value_view c.index-numbers-least.result in
    let least = item_got vs c.args.least c.index-numbers-least.result c.requires.low c.index-numbers-least.is in
    let greatest = item_got vs c.args.greatest c.index-numbers-greatest.result c.requires.high c.index-numbers-greatest.is in
    let P : Json → Type 0 = λ j. OnOk c.add_bound.result (new ≡ now ++ bound_findings c.args.key.now c.args.least j (get_or (map value_view vs) c.args.greatest null)) in
    let Q : Json → Type 0 = λ j. OnOk c.add_bound.result (new ≡ now ++ bound_findings c.args.key.now c.args.least low j) in
    subst P least (subst Q greatest c.add_bound.ensures)
