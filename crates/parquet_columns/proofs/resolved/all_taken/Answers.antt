use Rattle.std.proofs.Common.{map, option_map, take, ap, ◌∙◌}
use Rattle.json.specs.Value.{value_view}
use Rattle.arrow_columns.specs.Column.{column_tree}
use Rattle.parquet_footer.specs.Element.{element}
use Rattle.parquet_columns.specs.Resolved.{takes_type}
use Rattle.parquet_columns.proofs.Resolving.{one_taken}
use Rattle.parquet_columns.proofs.resolved.all_taken.Goals as goal

pub loop-at-preserved : goal.loop-at-preserved
loop-at-preserved c =
    let l = c.loop-at in
    let g = option_map (λ v. value_view v.now) c.args.geo in
    let es = map element c.args.children.now in
    let stored = c.args.stored.now in
    let column = c.index-stored-at.result in
    record {
      so_far = one_taken g es stored l.at column l.takes.items _ c.in_ok-takes_type.field-0 l.invariant.so_far c.loop-at-test.true c.index-stored-at.is
          (c.in_ok-takes_type.ensures ∙ ap (λ e. takes_type g (map column_tree (take l.at stored)) e (column_tree column)) c.child_at-child.ensures) c.in_ok-push.ensures.items;
    }
