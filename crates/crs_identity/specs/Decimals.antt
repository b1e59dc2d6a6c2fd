-- Numbers of JSON as decimals of any length.
use Rattle.std.specs.Prelude.{ℕ, ◌+◌, ◌-◌, ◌==◌, ◌&&◌, ◌||◌, List, [], ◌∷◌, ◌++◌, length, drop, reverse, slice_index, Bool, nat_lt, if◌then◌else◌, bytes_eq}
use Rattle.std.specs.Bool.{beq}
use Rattle.fast_float.specs.Text.{minus, Parts, scan, tens_up, tens_down}
use Rattle.crs_identity.specs.declared.decimal.Number.{Number}

-- a number is `digits * 10 ^ up / 10 ^ down`, or that below zero; the digits neither begin nor end with a 0, and zero has none
pub record Decimal : Type 0 where
  pub negative : Bool
  pub digits : List ℕ
  pub up : ℕ
  pub down : ℕ

abbrev pub without_leading_zeros : List ℕ → List ℕ
without_leading_zeros [] = []
without_leading_zeros (b ∷ s) = if b == 48 then without_leading_zeros s else b ∷ s

abbrev pub without_last_zeros : List ℕ → List ℕ
without_last_zeros s = reverse (without_leading_zeros (reverse s))

abbrev pub is_negative : List ℕ → Bool
is_negative s = slice_index s 0 == minus

-- the parts of a number without its sign
abbrev pub parts : List ℕ → Parts
parts s = scan (if is_negative s then drop 1 s else s)

-- all digits, the leading zeros left out
abbrev pub digits_of : Parts → List ℕ
digits_of p = without_leading_zeros (p.whole ++ p.fraction)

-- the number that a text is
abbrev pub decimal_of : List ℕ → Decimal
decimal_of s = record {
  negative = is_negative s;
  digits = without_last_zeros (digits_of (parts s));
  up = tens_up (parts s) + (length (digits_of (parts s)) - length (without_last_zeros (digits_of (parts s))));
  down = tens_down (parts s);
}

-- both are zero; or both have the same sign, the same digits, and the same power of ten
abbrev pub are_equal_decimals : Decimal → Decimal → Bool
are_equal_decimals x y =
    (length x.digits == 0 && length y.digits == 0)
    || (beq x.negative y.negative && (bytes_eq x.digits y.digits && x.up + y.down == y.up + x.down))

-- the exponent has more than nine digits
abbrev pub is_far : List ℕ → Bool
is_far s = nat_lt 9 (length (parts s).exponent)

-- whether two texts are the same number; where an exponent has more than nine digits, whether they are the same text
abbrev pub are_equal_numbers : List ℕ → List ℕ → Bool
are_equal_numbers s t = if is_far s || is_far t then bytes_eq s t else are_equal_decimals (decimal_of s) (decimal_of t)

abbrev pub decimal : Number → Decimal
decimal n = record { negative = n.negative; digits = n.digits.items; up = n.up; down = n.down }
