-- The numbers of a format string. A number is written in one way only: without a plus, and without
-- zeros in front.
use Rattle.std.specs.Prelude.{ℕ, ◌^◌, zero, suc, ℤ, pos, negsuc, Bool, true, false, not, ◌&&◌, List}
use Rattle.std.specs.Prelude.{[], ◌∷◌, ◌++◌, Option, Some, None, option_map, nat_lt, nat_le, ◌==◌}
use Rattle.std.specs.Prelude.{if◌then◌else◌}
use Rattle.std.specs.Fmt.{signed_decimal}
use Rattle.std.specs.List.{slice_split}
use Rattle.std.specs.Option.{option_and_then}
use Rattle.std.specs.Str.{all_ascii_digits}
use Rattle.std.specs.Str.Parse.{digits_value}
use Rattle.arrow_values.specs.Tree.{Text}
use Rattle.arrow_values.specs.Union.{has}

-- a number of a signed byte
abbrev pub is_byte : ℤ → Bool
is_byte (pos n) = nat_lt n 128
is_byte (negsuc n) = nat_lt n 128

-- a type id is 0 to 127, and none of those before it
abbrev pub is_id : ℤ → Bool
is_id (pos n) = nat_lt n 128
is_id (negsuc n) = false

abbrev pub are_ids : List ℤ → List ℤ → Bool
are_ids before [] = true
are_ids before (i ∷ is) = is_id i && not (has i before) && are_ids (before ++ i ∷ []) is

-- a size is not negative, and a number of 32 bits with a sign
abbrev pub is_size : ℤ → Bool
is_size (pos n) = nat_lt n (2 ^ 31)
is_size (negsuc n) = false

-- type ids with commas between them
abbrev pub more_ids : List ℤ → Text
more_ids [] = []
more_ids (i ∷ is) = 44 ∷ (signed_decimal i ++ more_ids is)

abbrev pub ids_text : List ℤ → Text
ids_text [] = []
ids_text (i ∷ is) = signed_decimal i ++ more_ids is

-- one digit, or more of which the first is not 0
abbrev pub leads : Text → Bool
leads [] = false
leads (c ∷ []) = nat_le 48 c && nat_le c 57
leads (c ∷ d ∷ ds) = nat_le 49 c && nat_le c 57

-- the number below a bound that a text is
unfoldable pub number_in : ℕ → Text → Option ℕ
number_in bound text =
    if all_ascii_digits text && leads text && nat_lt (digits_value 10 text) bound then
    Some (digits_value 10 text) else None

-- the number of a signed byte
abbrev pub below_zero : ℕ → Option ℤ
below_zero zero = None
below_zero (suc n) = Some (negsuc n)

abbrev pub byte_by : Bool → Text → Text → Option ℤ
byte_by true digits text = option_and_then below_zero (number_in 129 digits)
byte_by false digits text = option_map pos (number_in 128 text)

abbrev pub byte_in : Text → Option ℤ
byte_in [] = None
byte_in (c ∷ digits) = byte_by (c == 45) digits (c ∷ digits)

-- what stands before the first such byte, and behind it
unfoldable pub cut : ℕ → Text → Option (Text × Text)
cut c [] = None
cut c (b ∷ text) = if b == c then Some ([], text) else option_map (λ p. (b ∷ p.0, p.1)) (cut c text)

-- type ids, after those before them
abbrev pub id_to : List ℤ → ℕ → Option (List ℤ)
id_to ids n = if has (pos n) ids then None else Some (ids ++ pos n ∷ [])

unfoldable pub ids_from : List ℤ → List Text → Option (List ℤ)
ids_from ids [] = Some ids
ids_from ids (t ∷ ts) =
    option_and_then (λ more. ids_from more ts) (option_and_then (id_to ids) (number_in 128 t))

abbrev pub ids_in : Text → Option (List ℤ)
ids_in [] = Some []
ids_in (c ∷ text) = ids_from [] (slice_split (λ b. b == 44) (c ∷ text))
