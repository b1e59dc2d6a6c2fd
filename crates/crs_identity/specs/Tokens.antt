-- The tokens of WKT (OGC 18-010, 6): brackets and commas, quoted texts, and words; blanks may stand between them.
use Rattle.std.specs.Prelude.{◌==◌, ◌||◌, ℕ, List, [], ◌∷◌, ◌++◌, Bool, bytes_eq, true, false, ◌&&◌, if◌then◌else◌}
use Rattle.crs_identity.specs.Identifiers.{Text}
use Rattle.crs_identity.specs.declared.tokens.Token.{Token}
use Rattle.crs_identity.specs.declared.tokens.Token.TheVariants.{Mark, Quoted, Word}
use Rattle.crs_identity.specs.declared.tokens.Mode.{Mode}
use Rattle.crs_identity.specs.declared.tokens.Mode.TheVariants.{Between, InWord, InQuotes, BehindQuote}

-- a bracket or a comma; what stands between quotes, of two quotes in a row one; anything else
pub data Lexeme : Type 0 where
  mark : ℕ → Lexeme
  quoted : Text → Lexeme
  word : Text → Lexeme

abbrev pub lexeme : Token → Lexeme
lexeme (Mark b) = mark b
lexeme (Quoted s) = quoted s.items
lexeme (Word s) = word s.items

-- `[`, `(`
abbrev pub is_open : ℕ → Bool
is_open b = b == 91 || b == 40

-- `]`, `)`
abbrev pub is_close : ℕ → Bool
is_close b = b == 93 || b == 41

abbrev pub is_comma : ℕ → Bool
is_comma b = b == 44

abbrev pub is_mark : ℕ → Bool
is_mark b = is_open b || (is_close b || is_comma b)

abbrev pub is_quote : ℕ → Bool
is_quote b = b == 34

-- a space, a tab, the end of a line
abbrev pub is_blank : ℕ → Bool
is_blank b = b == 32 || (b == 9 || (b == 10 || b == 13))

-- where a byte stands: between tokens; in a word; in a quoted text; or behind a quote there, which ends the text unless another quote follows
pub data Place : Type 0 where
  between : Place
  in_word : Text → Place
  in_quotes : Text → Place
  behind_quote : Text → Place

abbrev pub place : Mode → Place
place Between = between
place (InWord s) = in_word s.items
place (InQuotes s) = in_quotes s.items
place (BehindQuote s) = behind_quote s.items

-- a byte behind a token, before the others
abbrev pub begin : ℕ → (Place → List Lexeme) → List Lexeme
begin b others =
    if is_mark b then mark b ∷ others between else
    (if is_quote b then others (in_quotes []) else
    (if is_blank b then others between else others (in_word (b ∷ []))))

-- a byte at its place, before the others
abbrev pub next_byte : Place → ℕ → (Place → List Lexeme) → List Lexeme
next_byte between b others = begin b others
next_byte (in_word s) b others = if is_mark b || (is_quote b || is_blank b) then word s ∷ begin b others else others (in_word (s ++ b ∷ []))
next_byte (in_quotes s) b others = if is_quote b then others (behind_quote s) else others (in_quotes (s ++ b ∷ []))
next_byte (behind_quote s) b others = if is_quote b then others (in_quotes (s ++ b ∷ [])) else quoted s ∷ begin b others

-- at the end of the text
abbrev pub last_lexeme : Place → List Lexeme
last_lexeme between = []
last_lexeme (in_word s) = word s ∷ []
last_lexeme (in_quotes s) = quoted s ∷ []
last_lexeme (behind_quote s) = quoted s ∷ []

abbrev pub lexemes_from : Place → Text → List Lexeme
lexemes_from p [] = last_lexeme p
lexemes_from p (b ∷ s) = next_byte p b (λ q. lexemes_from q s)

abbrev pub lexemes : Text → List Lexeme
lexemes s = lexemes_from between s

-- ---- equal texts but for blanks between tokens

abbrev pub is_same_lexeme : Lexeme → Lexeme → Bool
is_same_lexeme (mark b) (mark c) = b == c
is_same_lexeme (quoted s) (quoted t) = bytes_eq s t
is_same_lexeme (word s) (word t) = bytes_eq s t
is_same_lexeme _ _ = false

abbrev pub are_same_lexemes : List Lexeme → List Lexeme → Bool
are_same_lexemes [] [] = true
are_same_lexemes (l ∷ ls) (m ∷ ms) = is_same_lexeme l m && are_same_lexemes ls ms
are_same_lexemes _ _ = false
