use Rattle.std.proofs.Common.{[], ◌∷◌, ◌++◌, ap, map, subst, sym, take, ◌∙◌}
use Rattle.std.proofs.lemmas.List.{take_more}
use Rattle.geoparquet.specs.Sources.{AreElements, sourced}
use Rattle.geoparquet.proofs.Sourcing.{all_elements}
use Rattle.geoparquet.proofs.sources.by_name.Goals as goal

pub sources-preserved : goal.sources-preserved
sources-preserved c =
    let ss = c.args.all.now in
    let i = c.sources.it-index in
    subst (λ xs. AreElements (map sourced xs) c.put_element.new.named)
    (sym (take_more ss i _ c.sources-test.true ∙ ap (λ x. take i ss ++ x ∷ []) (sym c.it-item.is)))
    (c.in_ok-put_element.ensures (take i ss) c.sources.invariant)

pub returns : goal.returns
returns c = all_elements c.args.all.now c.sources.it-index c.sources.named c.sources-test.false c.sources.invariant
