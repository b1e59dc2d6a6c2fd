use Rattle.geoarrow_layout.proofs.Lemmas.{refl, sym, ◌∙◌, inl, inr, true≢false, no_third, same_three}
use Rattle.geoarrow_layout.proofs.read.separated_dimension.Goals as goal

pub returns-in-3 : goal.returns-in-3
returns-in-3 c = λ ns same is. no_third ns (sym same ∙ c.in-3.is) (λ xy other. true≢false (sym xy.0 ∙ sym (c.if-not-has_known.ensures ns is)))

pub returns-in-3-2 : goal.returns-in-3-2
returns-in-3-2 c = λ ns same is. no_third ns (sym same ∙ c.in-3.is) (λ xy other. true≢false (sym xy.1 ∙ sym (c.if-not-has_known-2.ensures ns is)))

pub returns-in-3-3 : goal.returns-in-3-3
returns-in-3-3 c = λ ns same is. let three = sym same ∙ c.in-3.is in
    (three, same_three _ _ _ ns refl refl refl three (sym (c.if-not-has_known.ensures ns is), sym (c.if-not-has_known-2.ensures ns is)) (sym (c.if-has_known.ensures ns is)))

pub returns-in-3-4 : goal.returns-in-3-4
returns-in-3-4 c = λ ns same is. let three = sym same ∙ c.in-3.is in
    (three, same_three _ _ _ ns refl refl refl three (sym (c.if-not-has_known.ensures ns is), sym (c.if-not-has_known-2.ensures ns is)) (sym (c.if-has_known-2.ensures ns is)))

pub returns-in-3-5 : goal.returns-in-3-5
returns-in-3-5 c = λ ns same is. no_third ns (sym same ∙ c.in-3.is) (λ xy other. elim other [
  | inl z ↦ true≢false (sym z ∙ sym (c.if-has_known-2.ensures ns is))
  | inr m ↦ true≢false (sym m ∙ sym (c.if-has_known.ensures ns is))
])
