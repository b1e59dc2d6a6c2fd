-- The first bytes of a file, and texts whose end is not cut.
use Rattle.std.proofs.Common.{◌≡◌, inl, inr, ℕ, min, List, [], true, length, take, drop, drop_of_length-le, is_none, sym, ap, ◌∙◌, arith}
use Rattle.std.specs.Str.{IsUtf8}
use Rattle.std.specs.Str.Lossy.{utf8_valid_len, utf8_error_len}
use Rattle.std.proofs.lemmas.Bool.{cases_lt}
use Rattle.std.proofs.lemmas.List.{take_all}
use Rattle.std.proofs.lemmas.Str.{utf8_valid_len-IsUtf8}

-- UTF-8 has no character that is cut
pub whole_text : (text : List ℕ) → IsUtf8 text → is_none (utf8_error_len (drop (utf8_valid_len text) text)) ≡ true
unfolding utf8_error_len
whole_text text utf8 =
    let whole : utf8_valid_len text ≡ length text = utf8_valid_len-IsUtf8 text utf8 in
    let none : drop (utf8_valid_len text) text ≡ [] = drop_of_length-le text (omega (arith, whole)) in
    ap (λ l. is_none (utf8_error_len l)) none

-- the first n bytes, of which there may be fewer
pub first_bytes : (n k : ℕ) (bytes : List ℕ) → k ≡ min (length bytes) n → take k bytes ≡ take n bytes
first_bytes n k bytes is = elim (cases_lt (length bytes) n) [
  | inl few ↦ take_all k bytes (omega (arith, is, few)) ∙ sym (take_all n bytes (omega (arith, few)))
  | inr many ↦ ap (λ m. take m bytes) (omega (arith, is, many))
]
