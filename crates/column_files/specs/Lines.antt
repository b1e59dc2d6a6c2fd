-- The lines of a text, one after another.
use Rattle.std.specs.Prelude.{◌≡◌, ◌≢◌, ◌+◌, ℕ, Bool, ◌||◌, ◌==◌, List, [], ◌∷◌, take, drop, Option, MatchOption}
use Rattle.std.specs.List.{list_all}
use Rattle.memchr.specs.Find.{is_byte, IsFirstByte}

-- the byte that ends a line
abbrev pub line_feed : ℕ
line_feed = 10

-- the first line of a text, which is not empty: what stands before its first line feed, with what comes behind that; all of it, where there is none
abbrev pub FirstLine : List ℕ → List ℕ → List ℕ → Type 0
FirstLine text line rest =
    (text ≢ []) × ((place : Option ℕ) × IsFirstByte (is_byte line_feed) text place
    × MatchOption place ((line ≡ text) × (rest ≡ [])) (λ at. (line ≡ take at text) × (rest ≡ drop (at + 1) text)))

-- the first lines of a text, in order, and the rest behind them
abbrev pub LinesTo : List ℕ → List (List ℕ) → List ℕ → Type 0
LinesTo text [] rest = text ≡ rest
LinesTo text (line ∷ lines) rest = (next : List ℕ) × FirstLine text line next × LinesTo next lines rest

-- a blank line has no bytes but spaces, tabs and carriage returns
abbrev pub is_blank_byte : ℕ → Bool
is_blank_byte byte = (byte == 32) || ((byte == 9) || (byte == 13))

abbrev pub is_blank : List ℕ → Bool
is_blank line = list_all is_blank_byte line
