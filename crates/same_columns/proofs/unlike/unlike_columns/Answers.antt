use Rattle.std.proofs.Common.{◌++◌, flat_map, map, ap, ◌∙◌}
use Rattle.column_reports.specs.Weights.{weighing}
use Rattle.same_columns.specs.Unlike.{unlike_of, unlike_view}
use Rattle.same_columns.proofs.unlike.unlike_columns.Goals as goal

pub returns : goal.returns
returns c =
    let of_each = unlike_of (weighing c.args.weights.now) c.args.first.now c.args.last.now in (
      c.in_ok-found.found.items,
      c.in_ok-found.ensures,
      c.in_ok-add_all.ensures ∙ ap (λ us. map unlike_view us ++ flat_map of_each c.as_slice.result.now) c.new-unlike.ensures.items ∙ ap (flat_map of_each) c.as_slice.ensures.value,
    )
