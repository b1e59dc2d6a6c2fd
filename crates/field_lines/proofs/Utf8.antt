-- The texts of what UTF-8 is read as are UTF-8, and so is the compact text of what is held.
use Rattle.std.proofs.Common.{◌≡◌, ℕ, ◌+◌, ◌<◌, ◌==◌, ◌&&◌, List, [], ◌∷◌, ◌++◌, length, get_or, Bool, true, false, cond, Option, Some, None, IfSome, option_and_then, IsUtf8, refl, sym, subst, arith, append_assoc, append-nil, length-append, eqb-true, ltb-true}
use Rattle.field_lines.proofs.Terms.{AllByRecursion, and_parts, cond_both, IfSome_then, IsUtf8-append, IsUtf8-encode, IsUtf8-take, IsUtf8-drop, IsCharBoundary-before_ascii, IsCharBoundary-after_ascii, encode_ascii, Token}
use Rattle.std.specs.Prelude.{⊤, nat_lt}
use Rattle.std.specs.Char.{is_digit, digit_value, encode_utf8, IsScalar}
use lib.Seq.{take-append_seam, drop-append-add, get_or-append_seam}
use lib.Utf8.{low_scalar}
use Rattle.json.specs.Text.{plain, after_backslash, after_u, after_high, content, code_unit, short_escape, is_high_surrogate, is_low_surrogate, surrogate_pair, prepend}
use Rattle.json.specs.Word.{number_before, word}
use Rattle.json.specs.Lex.{Lexeme, token, comma, colon, Class, class, quote, Mode, between, lex_byte, lex, Place, fresh, punctuate, tokens}
use Rattle.json.specs.Json as json
use Rattle.json.specs.Tree.{json_tokens}
use Rattle.json.proofs.Unique.Spelling.{value-json_tokens_back}
use Rattle.field_lines.proofs.Lean.{mapped, chained}

-- ---- UTF-8 around an ASCII byte

module _ (pre xs : List ℕ) (x : ℕ) (small : x < 128) (u : IsUtf8 (pre ++ x ∷ xs)) where
  at_seam : get_or (pre ++ x ∷ xs) (length pre) 0 < 128
  at_seam = subst (λ y. y < 128) (sym (get_or-append_seam pre x xs 0)) small

  within : length pre < length (pre ++ x ∷ xs)
  within = omega (arith, length-append pre (x ∷ xs))

  pub utf8_before : IsUtf8 pre
  utf8_before = subst IsUtf8 (take-append_seam pre (x ∷ xs)) (IsUtf8-take (pre ++ x ∷ xs) (length pre) u (IsCharBoundary-before_ascii _ _ within at_seam))

  pub utf8_after : IsUtf8 xs
  utf8_after = subst IsUtf8 (drop-append-add pre (x ∷ xs) 1) (IsUtf8-drop (pre ++ x ∷ xs) (length pre + 1) u (IsCharBoundary-after_ascii _ _ u within at_seam))

utf8_tail : (x : ℕ) (xs : List ℕ) → x < 128 → IsUtf8 (x ∷ xs) → IsUtf8 xs
utf8_tail x xs small u = utf8_after [] xs x small u

pub ascii_then : (x : ℕ) (xs : List ℕ) → x < 128 → IsUtf8 xs → IsUtf8 (x ∷ xs)
ascii_then x xs small u = IsUtf8-append (x ∷ []) xs (subst IsUtf8 (encode_ascii x small) (IsUtf8-encode x (low_scalar x (omega arith)))) u

one_more : (pre : List ℕ) (x : ℕ) (xs : List ℕ) → IsUtf8 (pre ++ x ∷ xs) → IsUtf8 ((pre ++ x ∷ []) ++ xs)
one_more pre x xs u = subst IsUtf8 (sym (append_assoc pre (x ∷ []) xs)) u

-- ---- the content of a string

escaped : (x : ℕ) → IfSome (short_escape x) (λ c. (c < 128) × (x < 128))
unfolding short_escape
escaped x = grind arith

abbrev Digits : ℕ → ℕ → ℕ → ℕ → ℕ → Type 0
Digits a b c d u = (a < 128) × (b < 128) × (c < 128) × (d < 128) × (u < 65536)

digit_small : (c : ℕ) → is_digit c 16 ≡ true → (c < 128) × (digit_value c < 16)
digit_small c e = (grind arith, ltb-true _ _ e)

four_digits : (a b c d : ℕ) → IfSome (code_unit a b c d) (Digits a b c d)
unfolding code_unit
four_digits a b c d = grind (arith, digit_small)

after_four : {a b c d u : ℕ} (xs : List ℕ) → Digits a b c d u → IsUtf8 (a ∷ b ∷ c ∷ d ∷ xs) → IsUtf8 xs
after_four xs h t = utf8_tail _ xs h.3 (utf8_tail _ _ h.2 (utf8_tail _ _ h.1 (utf8_tail _ _ h.0 t)))

-- a code unit that is no surrogate, and a pair of surrogates, are the code of a character
no_surrogate : (u : ℕ) → u < 65536 → is_high_surrogate u ≡ false → is_low_surrogate u ≡ false → IsScalar u
no_surrogate u small high low = grind arith

pair_of : (h l : ℕ) → is_high_surrogate h ≡ true → is_low_surrogate l ≡ true → IsScalar (surrogate_pair h l)
pair_of h l high low = grind arith

encoded : (c : ℕ) (o : Option (List ℕ)) → IsScalar c → IfSome o IsUtf8 → IfSome (prepend (encode_utf8 c) o) IsUtf8
encoded c o ok h = grind (arith, IsUtf8-append, IsUtf8-encode)

mutual
  unfolding content

  in_plain : (xs pre : List ℕ) → IsUtf8 (pre ++ xs) → IfSome (content plain xs) (λ s. IsUtf8 (pre ++ s))
  in_plain [] pre u = tt
  in_plain (x ∷ xs) pre u =
      let ends = λ (o : Option (List ℕ)). IfSome o (λ s. IsUtf8 (pre ++ s)) in
      cond_both (x == 34) (Some []) _ ends (λ e. subst IsUtf8 (sym (append-nil pre)) (utf8_before pre xs x (omega (arith, eqb-true x 34 e)) u))
      (λ _. cond_both (x == 92) (content after_backslash xs) _ ends
      (λ e. let small : x < 128 = omega (arith, eqb-true x 92 e) in
      IfSome_then (content after_backslash xs) (in_backslash xs (utf8_after pre xs x small u)) (λ s h. IsUtf8-append pre s (utf8_before pre xs x small u) h))
      (λ _. cond_both (nat_lt x 32) None _ ends (λ _. tt)
      (λ _. mapped (λ s. IsUtf8 (pre ++ s)) (λ s. x ∷ s) (content plain xs) (in_plain xs (pre ++ x ∷ []) (one_more pre x xs u)) (λ s h. subst IsUtf8 (append_assoc pre (x ∷ []) s) h))))

  in_backslash : (xs : List ℕ) → IsUtf8 xs → IfSome (content after_backslash xs) IsUtf8
  in_backslash [] u = tt
  in_backslash (x ∷ xs) u =
      cond_both (x == 117) (content after_u xs) _ (λ o. IfSome o IsUtf8) (λ e. in_u xs (utf8_tail x xs (omega (arith, eqb-true x 117 e)) u))
      (λ _. chained IsUtf8 (λ c. prepend (c ∷ []) (content plain xs)) (short_escape x) (escaped x)
      (λ c h. mapped IsUtf8 (λ s. c ∷ s) (content plain xs) (in_plain xs [] (utf8_tail x xs h.1 u)) (λ s k. ascii_then c s h.0 k)))

  in_u : (xs : List ℕ) → IsUtf8 xs → IfSome (content after_u xs) IsUtf8
  in_u (a ∷ b ∷ c ∷ d ∷ xs) u =
      chained IsUtf8 _ (code_unit a b c d) (four_digits a b c d)
      (λ w h. let rest = after_four xs h u in
      cond_both (is_high_surrogate w) (content (after_high w) xs) _ (λ o. IfSome o IsUtf8) (λ high. in_high w xs high rest)
      (λ high. cond_both (is_low_surrogate w) None _ (λ o. IfSome o IsUtf8) (λ _. tt)
      (λ low. encoded w (content plain xs) (no_surrogate w h.4 high low) (in_plain xs [] rest))))
  in_u _ u = tt

  in_high : (high : ℕ) (xs : List ℕ) → is_high_surrogate high ≡ true → IsUtf8 xs → IfSome (content (after_high high) xs) IsUtf8
  in_high high (s ∷ t ∷ a ∷ b ∷ c ∷ d ∷ xs) is u =
      cond_both ((s == 92) && (t == 117)) _ None (λ o. IfSome o IsUtf8)
      (λ e. let p = and_parts (s == 92) (t == 117) e in
      let begun = utf8_tail t _ (omega (arith, eqb-true t 117 p.1)) (utf8_tail s _ (omega (arith, eqb-true s 92 p.0)) u) in
      chained IsUtf8 _ (code_unit a b c d) (four_digits a b c d)
      (λ w h. cond_both (is_low_surrogate w) _ None (λ o. IfSome o IsUtf8)
      (λ low. encoded (surrogate_pair high w) (content plain xs) (pair_of high w is low) (in_plain xs [] (after_four xs h begun)))
      (λ _. tt))) (λ _. tt)
  in_high high _ is u = tt

-- ---- the tokens of a text

abbrev IsUtf8Token : Token → Type 0
IsUtf8Token (Token.key s) = IsUtf8 s
IsUtf8Token (Token.string s) = IsUtf8 s
IsUtf8Token _ = ⊤

abbrev pub AreUtf8 : List Token → Type 0
AreUtf8 ts = AllByRecursion IsUtf8Token ts

pub utf8_parts : (ts us : List Token) → AreUtf8 (ts ++ us) → AreUtf8 ts × AreUtf8 us
utf8_parts [] us u = (tt, u)
utf8_parts (t ∷ ts) us u = let p = utf8_parts ts us u.1 in ((u.0, p.0), p.1)

abbrev IsUtf8Lexeme : Lexeme → Type 0
IsUtf8Lexeme (token t) = IsUtf8Token t
IsUtf8Lexeme comma = ⊤
IsUtf8Lexeme colon = ⊤

abbrev AreUtf8Lexemes : List Lexeme → Type 0
AreUtf8Lexemes ls = AllByRecursion IsUtf8Lexeme ls

one_of_words : (a b c x y z : Bool) (t : List ℕ) (o : Option (List ℕ))
    → IsUtf8Token (cond a (cond x (Token.boolean true) Token.bad) (cond b (cond y (Token.boolean false) Token.bad) (cond c (cond z Token.null Token.bad) (number_before t o))))
one_of_words a b c x y z t o = grind arith

word_ok : (t : List ℕ) → IsUtf8Token (word t)
unfolding word
word_ok t = search one_of_words

byte_ok : (m : Mode) (c : Class) (x : ℕ) (xs : List ℕ) (k : Mode → List Lexeme) → (c ≡ quote → IsUtf8 xs) → ((n : Mode) → AreUtf8Lexemes (k n)) → AreUtf8Lexemes (lex_byte m c x xs k)
byte_ok m c x xs k u h = let text = in_plain xs [] in grind (arith, word_ok)

lexed : (m : Mode) (xs pre : List ℕ) → IsUtf8 (pre ++ xs) → AreUtf8Lexemes (lex m xs)
unfolding lex
lexed m [] pre u = tt
lexed m (x ∷ xs) pre u = byte_ok m (class x) x xs (λ n. lex n xs) (λ q. utf8_after pre xs x (grind arith) u) (λ n. lexed n xs (pre ++ x ∷ []) (one_more pre x xs u))

punctuated : (p : Place) (ls : List Lexeme) → AreUtf8Lexemes ls → AreUtf8 (punctuate p ls)
unfolding punctuate
punctuated p [] h = grind arith
punctuated p (l ∷ ls) h = let rest = λ (n : Place). punctuated n ls h.1 in grind arith

-- the tokens of a value that UTF-8 is read as, before it is converted
pub texts_utf8 : (d : ℕ) (text : List ℕ) → IsUtf8 text → IfSome (option_and_then (λ p. json.if_last p.0 p.1) (json.value d (tokens text))) (λ j. AreUtf8 (json_tokens j))
texts_utf8 d text u = by (json.value d (tokens text)) refl
  where
    by : (o : Option (json.Json × List Token)) → json.value d (tokens text) ≡ o → IfSome (option_and_then (λ p. json.if_last p.0 p.1) o) (λ j. AreUtf8 (json_tokens j))
    by (Some (j, [])) e = (utf8_parts (json_tokens j) [] (subst AreUtf8 (value-json_tokens_back d (tokens text) [] j e) (punctuated fresh _ (lexed between text [] u)))).0
    by _ e = tt
