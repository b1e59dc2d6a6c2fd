use Rattle.std.proofs.Common.{◌≡◌, ◌++◌, OnOk, map, option_map, ap, ◌∙◌, subst}
use Rattle.json.specs.Value.{value_view}
use Rattle.arrow_columns.specs.Column.{column_tree}
use Rattle.arrow_columns.specs.Names.{first_of}
use Rattle.geoparquet.specs.Findings.{finding}
use Rattle.geoparquet.specs.GeoFindings.{value_findings}
use Rattle.geoparquet.specs.Sources.{element_view}
use Rattle.geoparquet.proofs.column.add_value.Goals as goal

pub returns : goal.returns
returns c =
    let cs = map column_tree c.args.columns.now in
    let key = c.args.key.now in
    let j = value_view c.args.member.now in
    let said = option_map (λ e. element_view e.now) c.element-element.result in
    let same = ap (λ o. value_findings cs c.args.version key o said j) c.first-column.ensures ∙ ap (λ e. value_findings cs c.args.version key (first_of cs key) e j) c.element-element.ensures in
    subst (λ fs. OnOk c.add_value_of.result (map finding c.add_value_of.new.findings.items ≡ map finding c.args.findings.now.items ++ fs)) same c.add_value_of.ensures
