-- The last of values.
use Rattle.std.proofs.Common.{◌≡◌, ℕ, ◌+◌, ◌<◌, ◌≤◌, List, [], ◌∷◌, ◌++◌, length, get_or, drop, map, Option, Some, None, refl, sym, ap, ◌∙◌}
use Rattle.std.proofs.lemmas.List.{at_drop_more, drop_all}
use Rattle.arrow_values.specs.Tree.{Text}
use Rattle.parquet_footer.specs.declared.footer.KeyValue.{KeyValue}
use Rattle.parquet_footer.specs.Spelled.{Spelled}
use Rattle.parquet_footer.specs.Footer.{Pairing, pairing}
use Rattle.parquet_columns.specs.Keys.{later, value_under, value_of, text_pair, under, text_at}

pub first : {A : Type 0} (value : Option A) → later value None ≡ value
first None = refl
first (Some v) = refl

turns : {A : Type 0} (a b c : Option A) → later (later a b) c ≡ later a (later b c)
turns None b c = refl
turns (Some v) b c = refl

-- with one more pair
pub value_of-push : (key : Text) (ps : List Pairing) (p : Pairing) → value_of key (ps ++ p ∷ []) ≡ later (value_under key p) (value_of key ps)
value_of-push key [] p = sym (first (value_under key p))
value_of-push key (q ∷ ps) p = ap (λ v. later v (value_under key q)) (value_of-push key ps p) ∙ turns (value_under key p) (value_of key ps) (value_under key q)

pub text_at-push : (key : Text) (ps : List Pairing) (p : Pairing) → text_at key (ps ++ p ∷ []) ≡ later (under key (text_pair p)) (text_at key ps)
text_at-push key [] p = sym (first (under key (text_pair p)))
text_at-push key (q ∷ ps) p = ap (λ v. later v (under key (text_pair q))) (text_at-push key ps p) ∙ turns (under key (text_pair p)) (text_at key ps) (under key (text_pair q))

-- the last value behind an index, or the one found before it
abbrev pub LastFrom : Text → List KeyValue → ℕ → Option Spelled → Type 0
LastFrom key ps i found = later (value_of key (map pairing (drop i ps))) found ≡ value_of key (map pairing ps)

module _ (key : Text) (ps : List KeyValue) (i : ℕ) (found : Option Spelled) (so_far : LastFrom key ps i found) where
  pub goes_on : (p : KeyValue) → i < length ps → p ≡ get_or ps i p → (next : Option Spelled) → next ≡ later (value_under key (pairing p)) found → LastFrom key ps (i + 1) next
  goes_on p lt is next same =
      let here = at_drop_more (λ ys. later (value_of key (map pairing ys)) found) ps i p lt in
      let this : later (value_of key (map pairing (get_or ps i p ∷ drop (i + 1) ps))) found ≡ later (value_of key (map pairing (drop (i + 1) ps))) (later (value_under key (pairing p)) found) =
      ap (λ (x : KeyValue). later (value_of key (map pairing (x ∷ drop (i + 1) ps))) found) (sym is) ∙ turns (value_of key (map pairing (drop (i + 1) ps))) (value_under key (pairing p)) found in
      ap (later (value_of key (map pairing (drop (i + 1) ps)))) same ∙ sym this ∙ sym here ∙ so_far

  pub ends : length ps ≤ i → found ≡ value_of key (map pairing ps)
  ends past = ap (λ ys. later (value_of key (map pairing ys)) found) (sym (drop_all i ps past)) ∙ so_far
