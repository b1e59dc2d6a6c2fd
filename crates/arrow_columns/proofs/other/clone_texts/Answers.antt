use Rattle.std.proofs.Common.{◌≡◌, List, [], ◌∷◌, String, Global, string_bytes, refl}
use Rattle.std.proofs.lemmas.Result.{MatchResult-weaker}
use Rattle.std.specs.List.{AllZip}
use Rattle.arrow_values.specs.View.{texts_of}
use Rattle.arrow_columns.proofs.other.clone_texts.Goals as goal

same_texts : (es fs : List (String Global × String Global)) → AllZip (λ p q. (string_bytes q.0 ≡ string_bytes p.0) × (string_bytes q.1 ≡ string_bytes p.1)) es fs
    → texts_of fs ≡ texts_of es
same_texts [] [] h = refl
same_texts (e ∷ es) (f ∷ fs) h = λ i. (h.0.0 i, h.0.1 i) ∷ same_texts es fs h.1 i
same_texts _ _ h = absurd h

pub returns : goal.returns
returns c = MatchResult-weaker c.clone.result c.clone.ensures.cases (λ n. same_texts c.args.texts.now.entries n.entries) (λ _ _. tt)
