use Rattle.std.proofs.Common.{◌≡◌, [], ◌∷◌, ◌++◌, List, ap, map, sym, subst, take, ◌∙◌}
use Rattle.std.proofs.lemmas.List.{map-append, take_more}
use Rattle.same_columns.specs.Differences.{AreOfOthers}
use Rattle.same_columns.specs.Ranks.{ranked_view}
use Rattle.same_columns.specs.declared.difference.Difference.{Difference}
use Rattle.same_columns.proofs.Joining.{one_more_by}
use Rattle.same_columns.proofs.compare.add_others.Goals as goal

pub others-preserved : goal.others-preserved
others-preserved c = λ xs named.
    let bs = c.args.others.now in
    let i = c.others.other-index in
    let start = c.args.found.now.items in
    let new = c.add_by.new.found.items in
    let taken = take_more bs i _ c.others-test.true ∙ ap (λ x. take i bs ++ x ∷ []) (sym c.other-item.is) in
    let views = ap (map ranked_view) taken ∙ map-append ranked_view (take i bs) (c.other-item.result ∷ []) in
    subst (λ ys. (ds : List Difference) × AreOfOthers xs ys ds × (new ≡ start ++ ds)) (sym views)
    (one_more_by c.args.firsts.now xs (map ranked_view (take i bs)) (ranked_view c.other-item.result) start c.others.found.items new named (c.others.invariant xs named) c.in_ok-add_by.ensures)
