-- CRSs in WKT: WKT 1 (OGC 01-009) and WKT 2 (OGC 18-010).
use Rattle.std.specs.Prelude.{◌==◌, ◌&&◌, ◌||◌, ◌+◌, ◌-◌, ℕ, List, [], ◌∷◌, ◌++◌, Bool, false, bytes_eq, codes, slice_index, if◌then◌else◌, Option, Some, None, option_map, option_and_then}
use Rattle.std.specs.Char.{is_ascii_alphabetic, is_ascii_alphanumeric}
use Rattle.std.specs.List.{list_all}
use Rattle.crs_identity.specs.Identifiers.{Text, Name, named, in_small, with_pair}
use Rattle.crs_identity.specs.Tokens.{Lexeme, mark, quoted, word, is_open, is_close, is_comma}

-- letters, digits and `_`, a letter first
abbrev pub is_word_byte : ℕ → Bool
is_word_byte b = is_ascii_alphanumeric b || b == 95

abbrev pub is_keyword : Text → Bool
is_keyword s = is_ascii_alphabetic (slice_index s 0) && list_all is_word_byte s

-- a word, and a bracket that opens
abbrev pub is_wkt : List Lexeme → Bool
is_wkt (word s ∷ mark b ∷ ls) = is_keyword s && is_open b
is_wkt ls = false

-- ---- its identifiers

-- what stands behind a mark of that sort
abbrev pub past_mark : (ℕ → Bool) → List Lexeme → Option (List Lexeme)
past_mark is (mark b ∷ ls) = if is b then Some ls else None
past_mark is ls = None

-- a part that is a text or a word, and what stands behind it
abbrev pub first_part : List Lexeme → Option (Text × List Lexeme)
first_part (quoted s ∷ ls) = Some (s, ls)
first_part (word s ∷ ls) = Some (s, ls)
first_part ls = None

-- the second part, beside the first
abbrev pub with_code : Text → List Lexeme → Option Name
with_code authority ls = option_map (λ p. named authority p.0) (option_and_then first_part (past_mark is_comma ls))

-- the first two parts in the bracket that opens here
abbrev pub parts_named : List Lexeme → Option Name
parts_named ls = option_and_then (λ p. with_code p.0 p.1) (option_and_then first_part (past_mark is_open ls))

-- `ID` of WKT 2, `AUTHORITY` of WKT 1
abbrev pub is_id : Text → Bool
is_id s = bytes_eq (in_small s) (codes "id") || bytes_eq (in_small s) (codes "authority")

-- in how many brackets the next token stands
abbrev pub depth_past : ℕ → ℕ → ℕ
depth_past b depth = if is_open b then depth + 1 else (if is_close b then depth - 1 else depth)

-- of a word in so many brackets: a direct member of the outermost one is named by it
abbrev pub identifier_at : ℕ → Text → List Lexeme → Option Name
identifier_at depth s ls = if depth == 1 && is_id s then parts_named ls else None

abbrev pub identifiers_from : ℕ → List Lexeme → List Name
identifiers_from depth [] = []
identifiers_from depth (mark b ∷ ls) = identifiers_from (depth_past b depth) ls
identifiers_from depth (quoted s ∷ ls) = identifiers_from depth ls
identifiers_from depth (word s ∷ ls) = with_pair (identifier_at depth s ls) ++ identifiers_from depth ls

abbrev pub wkt_identifiers : List Lexeme → List Name
wkt_identifiers ls = identifiers_from 0 ls
