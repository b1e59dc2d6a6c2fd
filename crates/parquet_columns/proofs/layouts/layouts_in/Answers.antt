use Rattle.std.proofs.Common.{◌≡◌, ◌-◌, ◌+◌, ◌∷◌, List, length, map, take, drop, ap, ◌∙◌, arith}
use Rattle.std.proofs.lemmas.List.{length-drop, take_all}
use Rattle.parquet_footer.specs.Element.{Element, element}
use Rattle.parquet_columns.specs.Layouts.{Layout, layout, layout_of}
use Rattle.parquet_columns.proofs.Children.{takes, passes, all_found, same_item}
use Rattle.parquet_columns.proofs.Laying.{from_here}
use Rattle.parquet_columns.proofs.layouts.layouts_in.Goals as goal
use Rattle.parquet_columns.proofs.layouts.layouts_in.Goals.{then-below-eq0+in_ok-push, else-below-eq0}

abbrev laid : Element → List Element → Layout
laid e behind = layout_of (e ∷ behind)

pub loop-at-preserved : goal.loop-at-preserved
loop-at-preserved c =
    let l = c.loop-at in
    let es = c.args.elements.now in
    let i = l.at in
    let lt = c.loop-at-test.true in
    let count = c.count_of-count.ensures.count in
    let small = c.count_of-count.ensures.small in
    let size = length-drop i es in
    let whole : take (length es - i) (drop i es) ≡ drop i es = take_all (length es - i) (drop i es) (omega (arith, size)) in
    elim c.if-below-eq0.branch [
      | then-below-eq0+in_ok-push w ↦ record {
        so_far = takes laid layout es i l.made.items l.below l.invariant.so_far _ _ _ _ (ap (λ v. v.items) w.made-is ∙ w.in_ok-push.ensures.items)
            (w.layout_of.ensures ∙ ap (λ xs. layout_of (map element xs)) whole ∙ from_here es i _ lt (same_item es i _ lt)) (w.below-is ∙ count) (omega arith) lt (same_item es i _ lt);
        few = omega (arith, small);
      }
      | else-below-eq0 w ↦ record {
        so_far = passes laid layout es i l.made.items l.below l.invariant.so_far _ _ _ (ap (λ v. v.items) w.made-is) (w.below-is ∙ ap (λ n. l.below - 1 + n) count) (omega arith) lt (same_item es i _ lt);
        few = omega (arith, small);
      }
    ]

pub returns : goal.returns
returns c = all_found laid layout c.args.elements.now c.loop-at.at c.loop-at.made.items c.loop-at.below c.loop-at.invariant.so_far c.loop-at-test.false
