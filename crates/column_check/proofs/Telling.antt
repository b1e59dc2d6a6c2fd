-- What a walk has told of the places that it found.
use Rattle.std.proofs.Common.{◌≡◌, ℕ, zero, suc, ◌+◌, ◌-◌, ◌^◌, ◌<◌, ◌≤◌, min, List, [], ◌∷◌, ◌++◌, length, get_or, drop, Option, None, Some, refl, sym, ap, ap₂, ◌∙◌, arith, append_assoc, append-nil}
use Rattle.std.proofs.lemmas.List.{at_drop_more}
use Rattle.column_check.specs.Parts.{Spot}
use Rattle.column_check.specs.Said.{Said, at_most, at_each}
use Rattle.column_check.specs.Walk.{Telling, tell, tell_all, told}
use Rattle.column_check.specs.declared.code.WarningCode.{WarningCode}

module _ (code : WarningCode) where
  -- some places, and then others
  pub tell_more : (t : Telling) (spots others : List Spot) → tell_all code t (spots ++ others) ≡ tell_all code (tell_all code t spots) others
  tell_more t [] others = refl
  tell_more t (spot ∷ spots) others = tell_more (tell t (code, spot, 0)) spots others

  -- the places of one item of a loop, and then those of the items behind it
  pub tell_item : {A : Type 0} (of_all : List A → List Spot) (of_one : A → List Spot) → ((x : A) (xs : List A) → of_all (x ∷ xs) ≡ of_one x ++ of_all xs)
      → (now new : Telling) (xs : List A) (i : ℕ) (x : A) → x ≡ get_or xs i x → i < length xs → new ≡ tell_all code now (of_one x)
      → tell_all code new (of_all (drop (i + 1) xs)) ≡ tell_all code now (of_all (drop i xs))
  tell_item of_all of_one law now new xs i x is lt told =
      let behind = drop (i + 1) xs in
      ap (λ t. tell_all code t (of_all behind)) told ∙ sym (tell_more now (of_one x) (of_all behind))
      ∙ ap (λ spots. tell_all code now spots) (sym (at_drop_more of_all xs i x lt ∙ ap (λ y. of_all (y ∷ behind)) (sym is) ∙ law x behind))

  -- so of an item that stands in the list itself
  pub tell_at : {A : Type 0} (of_all : List A → List Spot) (of_one : A → List Spot) → ((x : A) (xs : List A) → of_all (x ∷ xs) ≡ of_one x ++ of_all xs)
      → (now new : Telling) (xs : List A) (i : ℕ) (d : A) → i < length xs → new ≡ tell_all code now (of_one (get_or xs i d))
      → tell_all code new (of_all (drop (i + 1) xs)) ≡ tell_all code now (of_all (drop i xs))
  tell_at of_all of_one law now new xs i d lt told =
      let behind = drop (i + 1) xs in
      ap (λ t. tell_all code t (of_all behind)) told ∙ sym (tell_more now (of_one (get_or xs i d)) (of_all behind))
      ∙ ap (λ spots. tell_all code now spots) (sym (at_drop_more of_all xs i d lt ∙ law (get_or xs i d) behind))

  -- behind the last one, they are counted
  counting : (ws : List Said) (room more : ℕ) (c : WarningCode) (s : Spot) (spots : List Spot) → more ≤ 2 ^ 64 - 1
      → told (tell_all code (ws, room, Some (c, s, more)) spots) ≡ ws ++ (c, s, min (more + length spots) (2 ^ 64 - 1)) ∷ []
  counting ws room more c s [] small = ap (λ n. ws ++ (c, s, n) ∷ []) (omega arith)
  counting ws room more c s (spot ∷ spots) small =
      counting ws room (min (more + 1) (2 ^ 64 - 1)) c s spots (omega arith) ∙ ap (λ n. ws ++ (c, s, n) ∷ []) (omega arith)

  -- what is told in the end
  pub tells : (ws : List Said) (n : ℕ) (spots : List Spot) → told (tell_all code (ws, n, None) spots) ≡ ws ++ at_most n code spots
  tells ws n [] = sym (append-nil ws)
  tells ws zero (spot ∷ spots) = counting ws zero 0 code spot spots (omega arith) ∙ ap (λ n. ws ++ (code, spot, min n (2 ^ 64 - 1)) ∷ []) (omega arith)
  tells ws (suc n) (spot ∷ spots) = tells (ws ++ (code, spot, 0) ∷ []) n spots ∙ append_assoc ws ((code, spot, 0) ∷ []) (at_most n code spots)

  -- what is told of some places, of sixteen at most, behind what stood there
  pub all_told : (old new : List Said) (between : Telling) (start : ℕ) (last : Option Said) (spots : List Spot) → start ≡ 15 → last ≡ None
      → between ≡ tell_all code (old, start, last) spots → new ≡ told between → new ≡ old ++ at_each code spots
  all_told old new between start last spots fifteen none all done =
      done ∙ ap told all ∙ ap₂ (λ n o. told (tell_all code (old, n, o) spots)) fifteen none ∙ tells old 15 spots
