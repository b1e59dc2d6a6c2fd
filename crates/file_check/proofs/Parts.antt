-- The parts of an expectation, one after another.
use Rattle.std.proofs.Common.{◌≡◌, ℕ, ◌+◌, ◌<◌, ◌≤◌, List, ◌∷◌, length, get_or, drop, map, Bor, inl, inr, refl, sym, ap, subst}
use Rattle.std.proofs.lemmas.List.{at_drop_more, drop_all}
use Rattle.std.specs.Prelude.{Option, None, Some}
use Rattle.arrow_values.specs.Tree.{Text}
use Rattle.geoarrow_layout.specs.declared.native_kinds.Kind.{Kind}
use Rattle.geoparquet.specs.Facts.{FactsOf}
use Rattle.file_check.specs.Wants.{Meets, unmet, UnlikeOf, IsUnmet}

abbrev pub texts : List (Bor (List ℕ)) → List Text
texts parts = map (λ (p : Bor (List ℕ)). p.now) parts

-- what is said of the parts that are left is said of all
abbrev pub AllMetTo : Kind → FactsOf → List (Bor (List ℕ)) → ℕ → Type 0
AllMetTo k fs parts i = (said : Option UnlikeOf) → IsUnmet k fs (texts (drop i parts)) said → IsUnmet k fs (texts parts) said

module _ (k : Kind) (fs : FactsOf) (parts : List (Bor (List ℕ))) (i : ℕ) (met : AllMetTo k fs parts i) where
  module _ (none : Bor (List ℕ)) (lt : i < length parts) where
    here : texts (drop i parts) ≡ (get_or parts i none).now ∷ texts (drop (i + 1) parts)
    here = at_drop_more texts parts i none lt

    pub goes_on : Meets k fs (get_or parts i none).now → AllMetTo k fs parts (i + 1)
    goes_on meets said rest = met said (subst (λ ps. IsUnmet k fs ps said) (sym here) (inl (meets, rest)))

    pub stops : (Meets k fs (get_or parts i none).now → ⊥) → (u : UnlikeOf) → u ≡ unmet k fs (get_or parts i none).now → IsUnmet k fs (texts parts) (Some u)
    stops fails u is = met (Some u) (subst (λ ps. IsUnmet k fs ps (Some u)) (sym here) (inr (fails, ap Some is)))

  pub ends : length parts ≤ i → IsUnmet k fs (texts parts) None
  ends past = met None (subst (λ ps. IsUnmet k fs (texts ps) None) (sym (drop_all i parts past)) refl)
