use Rattle.std.proofs.Common.{map, option_map, ◌∙◌}
use Rattle.json.specs.Value.{value_view}
use Rattle.arrow_columns.specs.Column.{column_tree}
use Rattle.parquet_footer.specs.Element.{element}
use Rattle.parquet_columns.specs.Resolutions.{beside_tree}
use Rattle.parquet_columns.specs.Resolved.{beside_at}
use Rattle.parquet_columns.proofs.Resolving.{one_column, one_finding, one_flag}
use Rattle.parquet_columns.proofs.resolved.resolved_with.Goals as goal

pub loop-column-preserved : goal.loop-column-preserved
loop-column-preserved c =
    let l = c.loop-column in
    let g = option_map (λ v. value_view v.now) c.args.geo in
    let at = beside_at (map element c.args.children.now) (map column_tree c.args.others.now) (map column_tree c.args.compared.now) c.args.takes.now in
    let place = c.len.ensures ∙ l.columns.ok.0 in
    let there = beside_tree c.beside_at-there.result in
    let new = c.in_ok-new.new in
    record {
      so_far = one_column g at l.columns.items l.yielded c.in-Some.column there c.len.result l.invariant.so_far place c.beside_at-there.ensures new c.in_ok-new.ensures _ c.in_ok-push.ensures.items;
      told = one_finding g at l.columns.items l.yielded c.in-Some.column there c.len.result l.invariant.so_far place c.beside_at-there.ensures new c.in_ok-new.ensures _ _ l.invariant.told c.in_ok-add_found.ensures;
      marked = one_flag g at l.columns.items l.yielded c.in-Some.column there c.len.result l.invariant.so_far place c.beside_at-there.ensures new c.in_ok-new.ensures _ _ l.invariant.marked c.in_ok-push-2.ensures.items;
    }
