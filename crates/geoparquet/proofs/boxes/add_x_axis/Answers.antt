use Rattle.std.proofs.Common.{◌≡◌, ◌++◌, OnOk, get_or, map, option_map, subst, arith}
use Rattle.json.specs.Json.{Json, null}
use Rattle.json.specs.Value.{value_view}
use Rattle.arrow_columns.specs.Column.{column_tree}
use Rattle.geoparquet.specs.BoxRules.{x_findings}
use Rattle.geoparquet.specs.Counting.{crs_that_counts, is_projected}
use Rattle.geoparquet.specs.Findings.{finding}
use Rattle.geoparquet.specs.Sources.{element_view}
use Rattle.geoparquet.proofs.Items.{item_got, readable_at}
use Rattle.geoparquet.proofs.boxes.add_x_axis.Goals as goal

pub add_x-requires : goal.add_x-requires
add_x-requires c = readable_at c.args.numbers.now 0 c.index-numbers-0.result (omega (arith, c.requires.high)) c.index-numbers-0.is c.requires.readable

pub returns : goal.returns
returns c =
    let vs = c.args.numbers.now in
    let now = map finding c.args.findings.now.items in
    let new = map finding c.add_x.new.findings.items in
    let projected = is_projected (crs_that_counts c.args.version (option_map (λ v. column_tree v.now) c.args.column) (option_map (λ e. element_view e.now) c.args.element) (value_view c.args.member.now)) in
    let low = value_view c.index-numbers-0.result in
    let least = item_got vs 0 c.index-numbers-0.result (omega (arith, c.requires.high)) c.index-numbers-0.is in
    let greatest = item_got vs c.args.greatest c.index-numbers-greatest.result c.requires.high c.index-numbers-greatest.is in
    let P : Json → Type 0 = λ j. OnOk c.add_x.result (new ≡ now ++ x_findings projected c.args.key.now j (get_or (map value_view vs) c.args.greatest null)) in
    let Q : Json → Type 0 = λ j. OnOk c.add_x.result (new ≡ now ++ x_findings projected c.args.key.now low j) in
    subst P least (subst Q greatest c.add_x.ensures)
