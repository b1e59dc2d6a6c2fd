use Rattle.std.proofs.Common.{map, sym, ◌∙◌, arith}
use Rattle.parquet_footer.specs.Element.{element}
use Rattle.parquet_columns.proofs.Laying.{no_list, no_more_lists}
use Rattle.parquet_columns.proofs.layouts.+below.Goals as goal
use Rattle.parquet_columns.proofs.layouts.+below.Goals.{below_lists-else-more-gt0-via-then-more-gt0+else-is_list, below_lists-else-more-gt0-via-else-more-gt0}

pub below_lists-returns : goal.below_lists-returns
below_lists-returns t c =
    let e = element c.args.found.now in
    let es = map element c.args.behind.now in
    elim c.else-more-gt0.branch [
      | below_lists-else-more-gt0-via-then-more-gt0+else-is_list w ↦
          c.coordinate.ensures ∙ sym (no_list c.args.more c.args.lists e es (sym w.is_list.ensures ∙ w.if-is_list.false))
      | below_lists-else-more-gt0-via-else-more-gt0 w ↦
          c.coordinate.ensures ∙ sym (no_more_lists c.args.more c.args.lists e es (omega (arith, w.if-more-gt0.false)))
    ]
