use Rattle.std.proofs.Common.{◌≡◌, ◌++◌, ◌||◌, OnOk, true, false, not, map, option_map, sym, ap, subst, ◌∙◌}
use Rattle.json.specs.Value.{value_view}
use Rattle.arrow_columns.specs.Column.{column_tree}
use Rattle.geoparquet.specs.BoxRules.{bound_finding, is_in_order}
use Rattle.geoparquet.specs.Counting.{crs_that_counts, is_projected}
use Rattle.geoparquet.specs.Findings.{finding}
use Rattle.geoparquet.specs.Rules.{unless}
use Rattle.geoparquet.specs.Sources.{element_view}
use Rattle.geoparquet.proofs.boxes.add_x.Goals as goal

pub returns : goal.returns
returns c =
    let least = value_view c.args.least.now in
    let greatest = value_view c.args.greatest.now in
    let projected = is_projected (crs_that_counts c.args.version (option_map (λ v. column_tree v.now) c.args.column) (option_map (λ e. element_view e.now) c.args.element) (value_view c.args.member.now)) in
    let above : is_in_order least greatest ≡ false = sym c.is_in_order.ensures ∙ c.if-is_in_order.false in
    let judged : projected ≡ true = sym c.in_ok-counts_projected.ensures ∙ c.if-not-branch.false in
    let found : (is_in_order least greatest || not projected) ≡ false = ap (λ b. b || not projected) above ∙ ap not judged in
    subst (λ b. OnOk c.add_greater.result (map finding c.add_greater.new.findings.items ≡ map finding c.args.findings.now.items ++ unless b (bound_finding c.args.key.now 0 least greatest)))
    (sym found) c.add_greater.ensures
