-- What an object of plain texts is to the lexer, a byte or a text at a time.
use Rattle.std.proofs.Common.{◌≡◌, ℕ, ◌+◌, ◌-◌, ◌<◌, ◌≤◌, Bool, true, false, cond, ◌||◌, ◌==◌, List, [], ◌∷◌, ◌++◌, length, take, drop, get_or, nat_eq, Option, Some, None, ◌⊎◌, ⊎_elim, refl, sym, ap, ap₂, ◌∙◌, arith, lt_of_not-le, length-take, get_or-take}
use Rattle.std.proofs.lemmas.Bool.{eqb-true, or_cases}
use Rattle.std.proofs.lemmas.Bool.Decides.{Decides-eqb}
use Rattle.std.proofs.lemmas.List.{drop_all, drop_more, drop-drop, get_or_past, take-append-drop}
use Rattle.std.proofs.lemmas.List.Sums.{prefix_len_passes}
use Rattle.std.proofs.lemmas.Slice.Eq.{starts_is}
use Rattle.std.specs.List.{prefix_len, starts_with}
use Rattle.json.specs.Ascii.{null_text}
use Rattle.json.specs.Token.{Token, begin_object, end_object, begin_array, end_array, key, string, number, null}
use Rattle.json.specs.Text.{content, plain}
use Rattle.json.specs.Word.{is_operator, is_space, ends_word, word}
use Rattle.json.specs.Lex.{Place, fresh, after_comma, after_value, Lexeme, token, colon, class, operator, operator_lexeme, space, lex_byte, between, in_string, lex, string_token, begins_colon, may_begin, punctuate}
use Rattle.json.specs.Run.{is_plain}
use Rattle.json.specs.Print.{escape, IsNumber}
use Rattle.json.proofs.Printed.Numbers.{in_word-ended, lex-number}
use Rattle.json.proofs.Printed.Plain.{escape_on_plain}
use Rattle.json.proofs.Printed.Strings.{content-escape, lex-escape}
use Rattle.geoarrow_meta.specs.PlainTokens.{lexemes_at, word_token}

-- a byte stands in the text, with what follows it
byte_there : (d : List ℕ) (i x : ℕ) → get_or d i 0 ≡ x → (x ≡ 0 → ⊥) → (i < length d) × (drop i d ≡ x ∷ drop (i + 1) d)
byte_there d i x e other =
    let within : i < length d = lt_of_not-le (λ h. other (sym e ∙ get_or_past d i 0 h)) in
    (within, drop_more d i 0 within ∙ ap (λ y. y ∷ drop (i + 1) d) e)

-- a brace, a comma or a colon
pub operator_stands : (d : List ℕ) (i x : ℕ) → class x ≡ operator → get_or d i 0 ≡ x → (i < length d) × (lexemes_at d i ≡ operator_lexeme x ∷ lexemes_at d (i + 1))
unfolding lex
operator_stands d i x c e =
    let b = byte_there d i x e (λ none. let k = sym c ∙ ap class none in cc) in
    (b.0, ap (lex between) b.1 ∙ ap (λ k. lex_byte between k x (drop (i + 1) d) (λ m. lex m (drop (i + 1) d))) c)

space_class : (x : ℕ) → is_space x ≡ true → class x ≡ space
space_class x h =
    ⊎_elim (λ h. ⊎_elim (λ h. ⊎_elim (λ is. ap class (eqb-true x 32 is)) (λ is. ap class (eqb-true x 9 is)) (or_cases (x == 32) (x == 9) h)) (λ is. ap class (eqb-true x 10 is))
    (or_cases ((x == 32) || (x == 9)) (x == 10) h)) (λ is. ap class (eqb-true x 13 is)) (or_cases ((x == 32) || (x == 9) || (x == 10)) (x == 13) h)

pub space_skipped : (d : List ℕ) (i : ℕ) → i < length d → is_space (get_or d i 0) ≡ true → lexemes_at d i ≡ lexemes_at d (i + 1)
unfolding lex
space_skipped d i within h =
    ap (lex between) (drop_more d i 0 within) ∙ ap (λ k. lex_byte between k (get_or d i 0) (drop (i + 1) d) (λ m. lex m (drop (i + 1) d))) (space_class (get_or d i 0) h)

pub none_left : (d : List ℕ) (i : ℕ) → length d ≤ i → lexemes_at d i ≡ []
unfolding lex
none_left d i h = ap (lex between) (drop_all i d h)

-- plain bytes stand for themselves
plain_escaped : (xs : List ℕ) → escape (take (prefix_len is_plain xs) xs) ≡ take (prefix_len is_plain xs) xs
plain_escaped xs =
    let n = prefix_len is_plain xs in
    escape_on_plain true (take n xs) (λ k from below.
    let low : k < n = omega (arith, length-take n xs) in
    ap is_plain (get_or-take n xs k 0 low) ∙ prefix_len_passes is_plain xs k 0 low)

-- a text between two quotes
pub text_stands : (d : List ℕ) (i stop : ℕ) → get_or d i 0 ≡ 34 → stop ≡ i + 1 + prefix_len is_plain (drop (i + 1) d) → get_or d stop 0 ≡ 34
    → (stop < length d) × (lexemes_at d i ≡ token (string (take (stop - (i + 1)) (drop (i + 1) d))) ∷ lexemes_at d (stop + 1))
unfolding lex
text_stands d i stop opens is closes =
    let last = byte_there d stop 34 closes (λ h. omega arith) in
    let xs = drop (i + 1) d in
    let k = prefix_len is_plain xs in
    let n : k ≡ stop - (i + 1) = omega arith in
    let after : drop k xs ≡ 34 ∷ drop (stop + 1) d = drop-drop k (i + 1) d ∙ ap (λ j. drop j d) (sym is) ∙ last.1 in
    let written : xs ≡ escape (take k xs) ++ 34 ∷ drop (stop + 1) d = sym (take-append-drop k xs) ∙ ap₂ (λ s t. s ++ t) (sym (plain_escaped xs)) after in
    let quoted = ap₂ (λ c ls. token (string_token c) ∷ ls) (ap (content plain) written ∙ content-escape (take k xs) _) (ap (lex in_string) written ∙ lex-escape (take k xs) (drop (stop + 1) d)) in
    (last.0, ap (lex between) (byte_there d i 34 opens (λ h. omega arith)).1 ∙ quoted ∙ ap (λ j. token (string (take j xs)) ∷ lexemes_at d (stop + 1)) n)

null_ended : (xs rest : List ℕ) → xs ≡ null_text ++ rest → ends_word rest ≡ true → lex between xs ≡ token null ∷ lex between rest
unfolding lex word
null_ended xs rest is ends = ap (lex between) is ∙ ap₂ (λ b ls. token (cond b null Token.bad) ∷ ls) ends (in_word-ended rest ends)

pub null_stands : (d : List ℕ) (i x : ℕ) → starts_with nat_eq (drop i d) null_text ≡ true → get_or d (i + 4) 0 ≡ x → (x ≡ 0 → ⊥) → (is_operator x || is_space x) ≡ true
    → lexemes_at d i ≡ token null ∷ lexemes_at d (i + 4)
null_stands d i x starts next other ends =
    null_ended (drop i d) (drop (i + 4) d) ((starts_is Decides-eqb (drop i d) null_text _ refl).0 starts ∙ ap (λ t. null_text ++ t) (drop-drop 4 i d))
    (ap ends_word (byte_there d (i + 4) x next other).1 ∙ ends)

-- ---- where a place is left

pub object_ends : (after_member : Bool) (ls : List Lexeme) → punctuate (cond after_member after_value fresh) (token end_object ∷ ls) ≡ end_object ∷ punctuate after_value ls
unfolding punctuate
object_ends true ls = refl
object_ends false ls = refl

pub array_ends : (after_item : Bool) (ls : List Lexeme) → punctuate (cond after_item after_value fresh) (token end_array ∷ ls) ≡ end_array ∷ punctuate after_value ls
unfolding punctuate
array_ends true ls = refl
array_ends false ls = refl

-- what holds at both places where a value may begin
at_beginning : (P : Place → Type 0) → P fresh → P after_comma → (p : Place) → may_begin p ≡ true → P p
at_beginning P f c fresh may = f
at_beginning P f c after_comma may = c
at_beginning P f c _ may = absurd (cc)

pub object_opens : (p : Place) (ls : List Lexeme) → may_begin p ≡ true → punctuate p (token begin_object ∷ ls) ≡ begin_object ∷ punctuate fresh ls
unfolding punctuate
object_opens p ls may = at_beginning (λ p. punctuate p (token begin_object ∷ ls) ≡ begin_object ∷ punctuate fresh ls) refl refl p may

pub array_opens : (p : Place) (ls : List Lexeme) → may_begin p ≡ true → punctuate p (token begin_array ∷ ls) ≡ begin_array ∷ punctuate fresh ls
unfolding punctuate
array_opens p ls may = at_beginning (λ p. punctuate p (token begin_array ∷ ls) ≡ begin_array ∷ punctuate fresh ls) refl refl p may

pub key_stands : (p : Place) (k : List ℕ) (ls : List Lexeme) → may_begin p ≡ true → punctuate p (token (string k) ∷ colon ∷ ls) ≡ key k ∷ punctuate fresh ls
unfolding punctuate
key_stands p k ls may = at_beginning (λ p. punctuate p (token (string k) ∷ colon ∷ ls) ≡ key k ∷ punctuate fresh ls) refl refl p may

pub word_stands : (p : Place) (w : Option (List ℕ)) (ls : List Lexeme) → may_begin p ≡ true → begins_colon ls ≡ false → punctuate p (token (word_token w) ∷ ls) ≡ word_token w ∷ punctuate after_value ls
unfolding punctuate
word_stands fresh None ls may ends = refl
word_stands fresh (Some s) ls may ends = rw ends
word_stands after_comma None ls may ends = refl
word_stands after_comma (Some s) ls may ends = rw ends
word_stands _ w ls may ends = absurd (cc)

pub number_stands : (p : Place) (s : List ℕ) (ls : List Lexeme) → may_begin p ≡ true → punctuate p (token (number s) ∷ ls) ≡ number s ∷ punctuate after_value ls
unfolding punctuate
number_stands p s ls may = at_beginning (λ p. punctuate p (token (number s) ∷ ls) ≡ number s ∷ punctuate after_value ls) refl refl p may

-- no key has ended where a comma, a brace or a bracket is
pub no_colon : (d : List ℕ) (i x : ℕ) → (x ≡ 44) ⊎ ((x ≡ 93) ⊎ (x ≡ 125)) → get_or d i 0 ≡ x → begins_colon (lexemes_at d i) ≡ false
no_colon d i x is e =
    let at = λ (y : ℕ) (c : class y ≡ operator) (is : x ≡ y). operator_stands d i y c (e ∙ is) in
    ⊎_elim (λ is. ap begins_colon (at 44 refl is).1) (⊎_elim (λ is. ap begins_colon (at 93 refl is).1) (λ is. ap begins_colon (at 125 refl is).1)) is

-- a number up to the place where a word ends
pub number_lexed : (d s : List ℕ) (i end : ℕ) → i ≤ end → end < length d → s ≡ take (end - i) (drop i d) → IsNumber s → (is_operator (get_or d end 0) || is_space (get_or d end 0)) ≡ true
    → lexemes_at d i ≡ token (number s) ∷ lexemes_at d end
number_lexed d s i end le within e is ends =
    let after : drop (end - i) (drop i d) ≡ drop end d = drop-drop (end - i) i d ∙ ap (λ j. drop j d) (omega arith) in
    let split : drop i d ≡ s ++ drop end d = sym (take-append-drop (end - i) (drop i d)) ∙ ap₂ (λ s t. s ++ t) (sym e) after in
    ap (lex between) split ∙ lex-number s (drop end d) is (ap ends_word (drop_more d end 0 within) ∙ ends)
