use Rattle.geoarrow_layout.proofs.Lemmas.{get_or_default, ◌<◌, get_or, sym, ap, subst, ◌∙◌, inl, inr, arith, cases_eq, name_of, YieldsKind, ALL, Told, moves, listed}
use Rattle.geoarrow_layout.proofs.laws.read_alike.Goals as goal

pub loop-kind-preserved : goal.loop-kind-preserved
loop-kind-preserved c = λ j d le lt. elim (cases_eq j c.loop-kind.kind-index) [
  | inl e ↦ let same = c.name.ensures ∙ ap name_of (get_or_default ALL _ _ d c.loop-kind-test.true) ∙ ap (λ i. name_of (get_or ALL i d)) (sym e) in
      (c.kind.result, λ t h. subst (λ n. YieldsKind n t c.kind.result) same (c.kind.ensures.exact t h))
  | inr e ↦ c.loop-kind.invariant j d le (omega (arith, lt, e))
]

pub returns : goal.returns
returns c = λ t u h g name k x.
    let l = listed k in
    let small : l.0 < 68 = l.1 in
    let told = subst (Told c.args.summary.now) l.2 (c.loop-kind.invariant l.0 k (omega arith) (omega arith)) in
    (moves _ k told x t u h g name, moves _ k told x u t g h name)
