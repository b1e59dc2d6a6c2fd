-- A JSON value as `json` reads it, and the text of it without blanks.
use Rattle.std.specs.Prelude.{◌≡◌, ℕ, ◌≤◌, ◌==◌, List, [], ◌∷◌, Bool, true, false, Option, Some, None}
use Rattle.std.specs.Coded.{Coded, code_by}
use Rattle.json.specs.Token.{Token, tokens_code}
use Rattle.json.specs.Json.{Json, null, string, object, document}
use Rattle.json.specs.Print.{print}
use Rattle.json.specs.Tree.{json_tokens, depth, HasNumbers}
use Rattle.serde_json.specs.Read.{max_depth}
use Rattle.value_tokens.specs.Codes.{json_from, json_from-json_tokens}

-- each number is the text of a number, and arrays and objects nest at most 127 levels: as of each value that was read from a text
abbrev pub IsReadable : Json → Type 0
IsReadable j = HasNumbers j × (depth j ≤ max_depth)

-- the value, or null where there is none
abbrev pub or_null : Option Json → Json
or_null None = null
or_null (Some j) = j

-- the value that a text is; null for a text that is none
abbrev pub json_in : List ℕ → Json
json_in s = or_null (document s)

-- the text is that of a readable value, without blanks
abbrev pub IsCompact : List ℕ → Type 0
IsCompact s = (s ≡ print (json_tokens (json_in s))) × IsReadable (json_in s)

abbrev pub is_object : Json → Bool
is_object (object ms) = true
is_object j = false

abbrev pub is_string : Json → Bool
is_string (string s) = true
is_string j = false

-- the text's first byte is that one
abbrev pub begins_with : List ℕ → ℕ → Bool
begins_with [] b = false
begins_with (x ∷ s) b = x == b

-- values are coded by their tokens
abbrev pub json_code : Coded Json
json_code = code_by (List Token) tokens_code json_tokens json_from json_from-json_tokens
