-- Tokens that are copied one by one.
use Rattle.std.proofs.Common.{◌≡◌, List, [], ◌∷◌, ◌++◌, sym, ap, subst, ◌∙◌, append_assoc, append-nil}
use Rattle.json.specs.Token.{Token}
use Rattle.json.specs.Print.{IsPrintable, ArePrintable}
use Rattle.json.specs.Written.{Written}
use Rattle.value_tokens.specs.Adds.{Adds}

-- of the tokens so many were copied
pub record SoFar (ts : List Token) (start out : Written) (left : List Token) : Type 0 where
  pub good : ArePrintable left
  pub same : out.tokens ++ left ≡ start.tokens ++ ts
  pub before : out.before ≡ start.before

pub first : (t : Token) (old new : List Token) → old ≡ t ∷ new → ArePrintable old → IsPrintable t × ArePrintable new
unfolding ArePrintable
first t old new e good = subst ArePrintable e good

module _ {ts : List Token} {start out : Written} {left : List Token} (way : SoFar ts start out left) where
  pub one_more : (t : Token) (more : Written) (new : List Token) → left ≡ t ∷ new → Adds (t ∷ []) out more → SoFar ts start more new
  one_more t more new is adds = record {
    good = (first t left new is way.good).1;
    same = ap (λ xs. xs ++ new) adds.tokens ∙ append_assoc out.tokens (t ∷ []) new ∙ ap (λ xs. out.tokens ++ xs) (sym is) ∙ way.same;
    before = adds.before ∙ way.before;
  }

  pub all_copied : left ≡ [] → Adds ts start out
  all_copied none = record {
    tokens = sym (append-nil out.tokens) ∙ ap (λ xs. out.tokens ++ xs) (sym none) ∙ way.same;
    before = way.before;
  }
