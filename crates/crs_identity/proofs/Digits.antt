-- The number that few digits are.
use Rattle.std.proofs.Common.{◌≡◌, ℕ, ◌^◌, ◌<◌, ◌≤◌, cond, List, [], ◌∷◌, length, drop, refl, ap, subst, sym, arith, lit<}
use Rattle.std.proofs.Math.Nat.{lt_of_lt_of_le, pow-le-pow_right}
use Rattle.std.proofs.lemmas.Bool.{ne_eqb}
use Rattle.std.proofs.lemmas.Int.Digits.{digits_value-lt}
use Rattle.std.specs.Str.Parse.{AllDigits, IsNumeral, digits_value, without_leading_plus}
use Rattle.std.proofs.lemmas.Str.Parse.{digit_at}

-- digits begin with no plus
pub no_plus : (ds : List ℕ) → AllDigits 10 ds → without_leading_plus ds ≡ ds
no_plus [] h = refl
no_plus (d ∷ ds) h =
    let range = digit_at (d ∷ ds) 0 h (omega arith) in
    let e = ne_eqb d 43 (λ same. omega (arith, range, same)) in
    ap (λ b. drop (cond b 1 0) (d ∷ ds)) e

pub few_below : (ds : List ℕ) → AllDigits 10 ds → length ds ≤ 9 → digits_value 10 ds < 10 ^ 9
few_below ds h few = lt_of_lt_of_le (digits_value-lt 10 ds h) (pow-le-pow_right (lit< tt) few)

-- of digits that are no numeral there are none
pub value_of_none : (ds : List ℕ) → AllDigits 10 ds → length ds ≤ 9 → (IsNumeral 10 (without_leading_plus ds) × (digits_value 10 (without_leading_plus ds) < 2 ^ 64) → ⊥) → 0 ≡ digits_value 10 ds
value_of_none [] h few never = refl
value_of_none (d ∷ ds) h few never =
    let small : digits_value 10 (d ∷ ds) < 2 ^ 64 = omega (arith, few_below (d ∷ ds) h few) in
    let numeral : IsNumeral 10 (d ∷ ds) = (omega arith, h) in
    absurd (never (subst (λ s. IsNumeral 10 s × (digits_value 10 s < 2 ^ 64)) (sym (no_plus (d ∷ ds) h)) (numeral, small)))
