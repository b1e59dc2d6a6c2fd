use Rattle.std.proofs.Common.{ap, sym, ◌∙◌, ◌+◌, ◌-◌, arith}
use Rattle.parquet_columns.proofs.Children.{same_item}
use Rattle.parquet_columns.proofs.Laying.{stored_end, stored_all, stored_not, stored_more}
use Rattle.parquet_columns.proofs.layouts.are_stored.Goals as goal

pub returns-then-left-eq0 : goal.returns-then-left-eq0
returns-then-left-eq0 c = stored_end c.args.elements.now c.loop-found.found-index c.loop-found.left c.loop-found.invariant.so_far (omega arith)

pub returns-then-not-is_stored_so : goal.returns-then-not-is_stored_so
returns-then-not-is_stored_so c =
    let lt = c.loop-found-test.true in
    stored_not c.args.elements.now c.loop-found.found-index c.loop-found.left c.loop-found.invariant.so_far _ lt (same_item c.args.elements.now c.loop-found.found-index _ lt) (omega arith)
    (sym c.is_stored_so.ensures ∙ c.if-not-is_stored_so.true)

pub loop-found-preserved : goal.loop-found-preserved
loop-found-preserved c =
    let lt = c.loop-found-test.true in
    let small = c.count_of.ensures.small in
    record {
      so_far = stored_more c.args.elements.now c.loop-found.found-index c.loop-found.left c.loop-found.invariant.so_far _ _ lt (same_item c.args.elements.now c.loop-found.found-index _ lt) (omega arith)
          (sym c.is_stored_so.ensures ∙ c.if-not-is_stored_so.false) (ap (λ n. c.loop-found.left - 1 + n) c.count_of.ensures.count);
      few = omega (arith, small);
    }

pub returns : goal.returns
returns c = stored_all c.args.elements.now c.loop-found.found-index c.loop-found.left c.loop-found.invariant.so_far c.loop-found-test.false
