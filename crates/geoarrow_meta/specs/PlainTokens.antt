-- Objects and arrays of plain texts, as their reader goes through a text.
use Rattle.std.specs.Prelude.{◌≡◌, ℕ, ◌≤◌, List, ◌∷◌, ◌++◌, length, drop, Bool, true, if◌then◌else◌, Option, Some, None}
use Rattle.json.specs.Token.{Token, string, null}
use Rattle.json.specs.Lex.{Lexeme, Place, between, lex, fresh, after_value, may_begin, punctuate}
use Rattle.serde_json.specs.Data.{Data}
use Rattle.value_tokens.specs.Next.{next_value}

-- the lexemes of the text from there on
abbrev pub lexemes_at : List ℕ → ℕ → List Lexeme
lexemes_at text at = lex between (drop at text)

-- the tokens that are left, after the brace that opens the object or after a member
abbrev pub tokens_left : Bool → List ℕ → ℕ → List Token
tokens_left after_member text at = punctuate (if after_member then after_value else fresh) (lexemes_at text at)

-- those lexemes are between the two places
abbrev pub Passes : List ℕ → ℕ → List Lexeme → ℕ → Type 0
Passes text at passed next = (lexemes_at text at ≡ passed ++ lexemes_at text next) × (next ≤ length text)

-- the token of a plain text or null
abbrev pub word_token : Option (List ℕ) → Token
word_token None = null
word_token (Some s) = string s

-- the tokens are those from that place on, where a value or a key may begin
abbrev pub IsBeginning : List ℕ → List Token → ℕ → Type 0
IsBeginning text ts at = (p : Place) × (may_begin p ≡ true) × (ts ≡ punctuate p (lexemes_at text at))

-- the token is between the two places, wherever a value may begin, and a value that it is has ended
abbrev pub Takes : List ℕ → ℕ → Token → ℕ → Type 0
Takes text at t next = ((p : Place) → may_begin p ≡ true → punctuate p (lexemes_at text at) ≡ t ∷ tokens_left true text next) × (next ≤ length text)

-- the value is between the two places, wherever a value may begin, nested at most that deep
abbrev pub TakesValue : List ℕ → ℕ → ℕ → Data → ℕ → Type 0
TakesValue text depth at d next = ((p : Place) → may_begin p ≡ true → next_value depth (punctuate p (lexemes_at text at)) ≡ Some (d, tokens_left true text next)) × (next ≤ length text)
