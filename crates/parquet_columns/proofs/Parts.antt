-- A text in two parts.
use Rattle.std.proofs.Common.{◌≡◌, ℕ, ◌<◌, List, length, true, false, Option, Some, None, nat_lt, refl, arith}
use Rattle.std.proofs.lemmas.Bool.Decides.{nat_tests}
use Rattle.std.specs.Prelude.{MatchOption, option_map}
use Rattle.std.specs.List.{position_or_len, before_first, after_first}
use Rattle.std.specs.Borrow.{Bor}
use Rattle.parquet_columns.specs.Geometry.{is_colon, colon_parts}

pub parted : (s : List ℕ) (r : Option (Bor (List ℕ) × Bor (List ℕ)))
    → MatchOption r (position_or_len is_colon s ≡ length s) (λ x. (position_or_len is_colon s < length s) × (x.0.now ≡ before_first is_colon s) × (x.1.now ≡ after_first is_colon s))
    → option_map (λ p. (p.0.now, p.1.now)) r ≡ colon_parts s
parted s None none =
    let not : nat_lt (position_or_len is_colon s) (length s) ≡ false = grind (arith, nat_tests) in
    rw not refl
parted s (Some x) there =
    let less : nat_lt (position_or_len is_colon s) (length s) ≡ true = grind (arith, nat_tests) in
    let first = there.1 in
    let second = there.2 in
    rw (less, first, second) refl
