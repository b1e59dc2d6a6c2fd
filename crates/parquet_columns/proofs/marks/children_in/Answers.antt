use Rattle.std.proofs.Common.{◌-◌, ◌+◌, List, refl, ap, ◌∙◌, arith}
use Rattle.parquet_footer.specs.Element.{Element, element}
use Rattle.parquet_columns.proofs.Children.{takes, passes, all_found, same_item}
use Rattle.parquet_columns.proofs.marks.children_in.Goals as goal
use Rattle.parquet_columns.proofs.marks.children_in.Goals.{then-below-eq0+in_ok-push, else-below-eq0}

abbrev itself : Element → List Element → Element
itself e behind = e

pub loop-child-preserved : goal.loop-child-preserved
loop-child-preserved c =
    let l = c.loop-child in
    let es = c.args.elements.now in
    let i = l.child-index in
    let lt = c.loop-child-test.true in
    let count = c.count_of-count.ensures.count in
    let small = c.count_of-count.ensures.small in
    elim c.if-below-eq0.branch [
      | then-below-eq0+in_ok-push w ↦ record {
        so_far = takes itself element es i l.found.items l.below l.invariant.so_far _ _ _ _ (ap (λ v. v.items) w.found-is ∙ w.in_ok-push.ensures.items) refl (w.below-is ∙ count) (omega arith) lt (same_item es i _ lt);
        few = omega (arith, small);
      }
      | else-below-eq0 w ↦ record {
        so_far = passes itself element es i l.found.items l.below l.invariant.so_far _ _ _ (ap (λ v. v.items) w.found-is) (w.below-is ∙ ap (λ n. l.below - 1 + n) count) (omega arith) lt (same_item es i _ lt);
        few = omega (arith, small);
      }
    ]

pub returns : goal.returns
returns c = all_found itself element c.args.elements.now c.loop-child.child-index c.loop-child.found.items c.loop-child.below c.loop-child.invariant.so_far c.loop-child-test.false
