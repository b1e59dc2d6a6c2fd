-- Steps of a loop that writes the text of each item.
use Rattle.std.proofs.Common.{◌≡◌, ℕ, zero, suc, ◌+◌, ◌<◌, ◌≤◌, List, [], ◌∷◌, ◌++◌, length, get_or, drop, map, max, String, Global, string_bytes, refl, sym, ap, ◌∙◌, arith, append_assoc, append-nil}
use Rattle.std.proofs.lemmas.List.{map_push, at_drop_more, drop_all}
use Rattle.arrow_values.specs.Tree.{Text}

module _ {A : Type 0} (one : A → ℕ) (all : List A → ℕ) (more : (x : A) (xs : List A) → all (x ∷ xs) ≡ max (suc (one x)) (all xs)) where
  pub falls : (xs : List A) {ys : List A} (i : ℕ) (x : A) → xs ≡ ys → i < length xs → x ≡ get_or xs i x → suc (one x) ≤ all ys
  falls [] i x e lt is = absurd (omega arith)
  falls (y ∷ ys) zero x e lt is = rw (← e) (let same : one x ≡ one y = ap one is in let most = more y ys in omega arith)
  falls (y ∷ ys) (suc i) x e lt is = rw (← e) (let low = falls ys i x refl (omega arith) is in let most = more y ys in omega arith)

-- the texts so far, before those of the items that are left
abbrev pub TextsRest : {A : Type 0} → (List A → List Text) → List A → ℕ → List (String Global) → Type 0
TextsRest texts xs i parts = map string_bytes parts ++ texts (drop i xs) ≡ texts xs

module _ {A : Type 0} (one : A → Text) (texts : List A → List Text) (xs : List A) (i : ℕ) (parts : List (String Global))
    (law : (x : A) (xs : List A) → texts (x ∷ xs) ≡ one x ∷ texts xs) (way : TextsRest texts xs i parts) where
  pub goes_on : (x : A) (part : String Global) → i < length xs → x ≡ get_or xs i x → string_bytes part ≡ one x → TextsRest texts xs (i + 1) (parts ++ part ∷ [])
  goes_on x part lt is this =
      let here = at_drop_more texts xs i x lt ∙ law (get_or xs i x) (drop (i + 1) xs) ∙ ap (λ y. one y ∷ texts (drop (i + 1) xs)) (sym is) in
      let front : map string_bytes (parts ++ part ∷ []) ≡ map string_bytes parts ++ one x ∷ [] = map_push string_bytes parts part ∙ ap (λ t. map string_bytes parts ++ t ∷ []) this in
      rw front (append_assoc (map string_bytes parts) (one x ∷ []) (texts (drop (i + 1) xs)) ∙ sym (ap (λ l. map string_bytes parts ++ l) here) ∙ way)

  pub ends : {all : List A} → texts [] ≡ [] → length xs ≤ i → xs ≡ all → map string_bytes parts ≡ texts all
  ends none le is =
      let left : texts (drop i xs) ≡ [] = ap texts (drop_all i xs le) ∙ none in
      sym (append-nil (map string_bytes parts)) ∙ ap (λ l. map string_bytes parts ++ l) (sym left) ∙ way ∙ ap texts is
