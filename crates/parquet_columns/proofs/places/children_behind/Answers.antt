use Rattle.std.proofs.Common.{◌-◌, ◌+◌, ◌∷◌, [], map, ap, ◌∙◌, arith}
use Rattle.std.proofs.lemmas.List.{map-append}
use Rattle.parquet_columns.specs.Places.{child}
use Rattle.parquet_columns.proofs.Children.{same_item}
use Rattle.parquet_columns.proofs.Placed.{takes, passes, all_found, left_first, left_passed, all_left}
use Rattle.parquet_columns.proofs.places.children_behind.Goals as goal
use Rattle.parquet_columns.proofs.places.children_behind.Goals.{then-below-eq0+in_ok-push, else-below-eq0}

pub loop-next-preserved : goal.loop-next-preserved
loop-next-preserved c =
    let l = c.loop-next in
    let es = c.args.elements.now in
    let i = l.next-index in
    let lt = c.loop-next-test.true in
    let count = c.count_of-count.ensures.count in
    let small = c.count_of-count.ensures.small in
    let place = l.invariant.place in
    elim c.if-below-eq0.branch [
      | then-below-eq0+in_ok-push w ↦ record {
        so_far = takes es i l.at (map child l.found.items) l.below l.invariant.so_far _ _ _ (ap (λ v. map child v.items) w.found-is ∙ ap (map child) w.in_ok-push.ensures.items ∙ map-append child l.found.items (_ ∷ [])) (w.below-is ∙ count) (omega arith) lt (same_item es i _ lt);
        left = left_first es i l.below l.invariant.left _ _ (w.below-is ∙ count) (omega arith) lt (same_item es i _ lt);
        few = omega (arith, small);
        place = omega (arith, place);
      }
      | else-below-eq0 w ↦ record {
        so_far = passes es i l.at (map child l.found.items) l.below l.invariant.so_far _ _ _ (ap (λ v. map child v.items) w.found-is) (w.below-is ∙ ap (λ n. l.below - 1 + n) count) (omega arith) lt (same_item es i _ lt);
        left = left_passed es i l.below l.invariant.left _ _ (w.below-is ∙ ap (λ n. l.below - 1 + n) count) (omega arith) lt (same_item es i _ lt);
        few = omega (arith, small);
        place = omega (arith, place);
      }
    ]

pub returns-clause-children : goal.returns-clause-children
returns-clause-children c = all_found c.args.elements.now c.loop-next.next-index c.loop-next.at (map child c.loop-next.found.items) c.loop-next.below c.loop-next.invariant.so_far c.loop-next-test.false

pub returns-clause-missing : goal.returns-clause-missing
returns-clause-missing c = all_left c.args.elements.now c.loop-next.next-index c.loop-next.below c.loop-next.invariant.left c.loop-next-test.false
