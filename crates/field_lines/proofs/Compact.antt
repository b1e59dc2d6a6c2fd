-- The compact text of what is held: what holds of its tokens and of texts that are joined holds of it.
use Rattle.std.proofs.Common.{◌≡◌, ◌≢◌, ℕ, suc, ◌<◌, ◌^◌, ◌&&◌, pos, negsuc, List, [], ◌∷◌, ◌++◌, Bool, true, false, cond, IsUtf8, All, decimal, nat_lt, refl, sym, arith, ltb-true, true≢false}
use Rattle.field_lines.proofs.Terms.{is_utf8, and_parts, IsUtf8-append, IsUtf8-nil, IsUtf8-from_ascii, IsUtf8-from_is_utf8, is_utf8-from_IsUtf8, Num, unsigned, negative, float, Data, null, boolean, number, string, array, object, Items, no_items, item, Members, no_members, member, number_text, comma_if, compact_text, items_text, members_text, is_held_number, is_held, items_are_held, members_are_held, held_parts}
use Rattle.std.proofs.lemmas.Fmt.{IsAscii-decimal, decimal_is_IsNumeral}
use Rattle.std.proofs.lemmas.List.Elements.{All-nil, All-cons, All-append, All-from_get_or}
use Rattle.std.proofs.lemmas.Str.Parse.{digit_at}
use Rattle.json.specs.Print.{escape_letter, escape_byte, escape, quoted}
use Rattle.json.proofs.Printed.Utf8.{IsUtf8-quoted}
use Rattle.field_lines.proofs.Utf8.{ascii_then}

-- whether the bytes are ASCII that is printed as it is
abbrev are_printable : List ℕ → Bool
are_printable [] = true
are_printable (x ∷ xs) = (nat_lt x 128 && nat_lt 31 x) && are_printable xs

module _ (P : List ℕ → Type 0) (none : P []) (join : (xs ys : List ℕ) → P xs → P ys → P (xs ++ ys)) (byte : (x : ℕ) (xs : List ℕ) → x < 128 → 31 < x → P xs → P (x ∷ xs))
    (quotes : (s : List ℕ) → is_utf8 s ≡ true → P (quoted s)) (digits : (n : ℕ) → n < 2 ^ 64 → P (decimal n)) where
  fixed : (xs : List ℕ) → are_printable xs ≡ true → P xs
  fixed [] h = none
  fixed (x ∷ xs) h = let rest = fixed xs in grind (arith, byte)

  number_is : (n : Num) → is_held_number n ≡ true → P (number_text n)
  number_is (unsigned n) h = digits n (ltb-true _ _ h)
  number_is (negative (pos n)) h = absurd (true≢false (sym h))
  number_is (negative (negsuc n)) h = let small = ltb-true n (2 ^ 63) h in join (45 ∷ []) (decimal (suc n)) (fixed (45 ∷ []) refl) (digits (suc n) (omega arith))
  number_is (float x) h = none

  comma_is : (later : Bool) → P (comma_if later)
  comma_is later = grind (arith, fixed (44 ∷ []) refl, none)

  mutual
    pub compact_is : (d : Data) → is_held d ≡ true → P (compact_text d)
    compact_is null h = fixed _ refl
    compact_is (boolean true) h = fixed _ refl
    compact_is (boolean false) h = fixed _ refl
    compact_is (number n) h = number_is n h
    compact_is (string s) h = quotes s h
    compact_is (array ds) h = join (91 ∷ []) (items_text false ds) (fixed (91 ∷ []) refl) (items_is false ds h)
    compact_is (object ms) h = join (123 ∷ []) (members_text false ms) (fixed (123 ∷ []) refl) (members_is false ms h)

    items_is : (later : Bool) (ds : Items) → items_are_held ds ≡ true → P (items_text later ds)
    items_is later no_items h = fixed (93 ∷ []) refl
    items_is later (item d ds) h =
        let p = and_parts (is_held d) _ h in
        join (comma_if later) _ (comma_is later) (join (compact_text d) (items_text true ds) (compact_is d p.0) (items_is true ds p.1))

    members_is : (later : Bool) (ms : Members) → members_are_held ms ≡ true → P (members_text later ms)
    members_is later no_members h = fixed (125 ∷ []) refl
    members_is later (member k d ms) h =
        let p = held_parts k d ms h in
        let value = join (compact_text d) (members_text true ms) (compact_is d p.2) (members_is true ms p.3) in
        join (comma_if later) _ (comma_is later) (join (quoted k) _ (quotes k p.1) (join (58 ∷ []) _ (fixed (58 ∷ []) refl) value))

-- ---- UTF-8

pub compact_utf8 : (d : Data) → is_held d ≡ true → is_utf8 (compact_text d) ≡ true
compact_utf8 d h =
    is_utf8-from_IsUtf8 (compact_text d) (compact_is IsUtf8 IsUtf8-nil IsUtf8-append (λ x xs small high. ascii_then x xs small) (λ s u. IsUtf8-quoted s (IsUtf8-from_is_utf8 s u))
    (λ n small. IsUtf8-from_ascii (decimal n) (IsAscii-decimal n small)) d h)

-- ---- no line feed

abbrev IsOther : ℕ → Type 0
IsOther b = b ≢ 10

abbrev IsOneLine : List ℕ → Type 0
IsOneLine xs = All IsOther xs

then : (x : ℕ) (xs : List ℕ) → IsOther x → IsOneLine xs → IsOneLine (x ∷ xs)
then x xs = All-cons IsOther x xs

bytes_line : (letter a b x : ℕ) → IsOther letter → IsOther a → IsOther b
    → IsOneLine (cond (nat_lt 0 letter) (92 ∷ letter ∷ []) (cond (nat_lt x 32) (92 ∷ 117 ∷ 48 ∷ 48 ∷ a ∷ b ∷ []) (x ∷ [])))
bytes_line letter a b x p q r = grind (arith, then, All-nil IsOther)

escaped_line : (x : ℕ) → IsOneLine (escape_byte x)
unfolding escape_byte
escaped_line x = bytes_line (escape_letter x) _ _ x (λ e. grind arith) (λ e. grind arith) (λ e. grind arith)

text_line : (s : List ℕ) → IsOneLine (escape s)
text_line [] = All-nil IsOther
text_line (x ∷ s) = All-append IsOther (escape_byte x) (escape s) (escaped_line x) (text_line s)

digits_line : (n : ℕ) → n < 2 ^ 64 → IsOneLine (decimal n)
digits_line n small = All-from_get_or IsOther (decimal n) 0 (λ k lt e. omega (arith, e, digit_at _ k (decimal_is_IsNumeral n small).0.1 lt))

pub compact_line : (d : Data) → is_held d ≡ true → All (λ b. b ≢ 10) (compact_text d)
compact_line d h =
    compact_is IsOneLine (All-nil IsOther) (All-append IsOther) (λ x xs small high. then x xs (λ f. omega arith))
    (λ s u. then 34 _ (λ f. omega arith) (All-append IsOther (escape s) (34 ∷ []) (text_line s) (then 34 [] (λ f. omega arith) (All-nil IsOther))))
    digits_line d h
