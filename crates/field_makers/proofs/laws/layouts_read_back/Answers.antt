use Rattle.std.proofs.Common.{◌<◌, ap, ◌∙◌, inl, inr, arith, subst, sym, get_or}
use Rattle.std.proofs.lemmas.Bool.{cases_eq}
use Rattle.std.proofs.lemmas.List.{get_or_default}
use Rattle.geoarrow_layout.specs.declared.native_kinds.TheConstants.Kind.{ALL}
use Rattle.geoarrow_layout.specs.Layouts.{layout}
use Rattle.geoarrow_layout.specs.Shapes.{Accepted}
use Rattle.field_makers.proofs.laws.layouts_read_back.Goals as goal

pub loop-kind-preserved : goal.loop-kind-preserved
loop-kind-preserved c = λ j d le lt. elim (cases_eq j c.loop-kind.kind-index) [
  | inl e ↦ let same = get_or_default ALL _ _ d c.loop-kind-test.true ∙ ap (λ i. get_or ALL i d) (sym e) in
      subst (λ k. Accepted k (layout k)) same c.layout_reads_back.ensures.1
  | inr e ↦ c.loop-kind.invariant j d le (omega (arith, lt, e))
]

pub returns : goal.returns
returns c = λ k.
    let l = c.kind_is_listed.ensures k in
    let small : l.0 < 68 = l.1 in
    subst (λ x. Accepted x (layout x)) l.2 (c.loop-kind.invariant l.0 k (omega arith) (omega (arith, small, c.loop-kind-test.false)))
