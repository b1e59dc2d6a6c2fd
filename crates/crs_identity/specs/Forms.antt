-- The forms in which a CRS is said.
use Rattle.std.specs.Prelude.{◌==◌, ◌&&◌, ◌||◌, ◌+◌, ℕ, nat_lt, List, [], length, take, drop, map, Bool, is_some, slice_index, if◌then◌else◌, Option, Some, None, position, option_and_then, false}
use Rattle.std.specs.Char.{is_ascii_alphabetic, is_ascii_alphanumeric}
use Rattle.std.specs.List.{list_all}
use Rattle.json.specs.Json.{Json, string, object, document}
use Rattle.json.specs.Value.{value_view}
use Rattle.serde_json.specs.Read.{read}
use Rattle.crs_identity.specs.Equality.{json_equal}
use Rattle.crs_identity.specs.Identifiers.{Text, Name, named, name_of, with_pair, projjson_identifiers}
use Rattle.crs_identity.specs.Tokens.{Lexeme, lexeme, lexemes, are_same_lexemes}
use Rattle.crs_identity.specs.Wkt.{is_wkt, wkt_identifiers}
use Rattle.crs_identity.specs.declared.form.Crs.{Crs}
use Rattle.crs_identity.specs.declared.form.CrsForm.{CrsForm}
use Rattle.crs_identity.specs.declared.form.CrsForm.TheVariants as held
use Rattle.crs_identity.specs.declared.form.Crs.TheVariants.{Unknown, Value, Srid}

-- a CRS: not known; a value; an opaque number of a database
pub data Said : Type 0 where
  unknown : Said
  value : Json → Said
  srid : Json → Said

abbrev pub said : Crs → Said
said Unknown = unknown
said (Value v) = value (value_view v.now)
said (Srid v) = srid (value_view v.now)

pub data Form : Type 0 where
  projjson : Json → Form
  code : Name → Form
  wkt : List Lexeme → Form
  number : Json → Form
  other : Json → Form

abbrev pub form_view : CrsForm → Form
form_view (held.Object v) = projjson (value_view v.now)
form_view (held.ObjectText v) = projjson (value_view v)
form_view (held.Code i) = code (name_of i)
form_view (held.Wkt ts) = wkt (map lexeme ts.items)
form_view (held.Number v) = number (value_view v.now)
form_view (held.Other v) = other (value_view v.now)

-- ---- a code: `A:C`

-- letters, digits, `_`, `.` and `-`
abbrev pub is_name_byte : ℕ → Bool
is_name_byte b = is_ascii_alphanumeric b || (b == 95 || (b == 46 || b == 45))

-- whether these are the two sides of a colon in a code
abbrev pub are_sides : Text → Text → Bool
are_sides a c = is_ascii_alphabetic (slice_index a 0) && (list_all is_name_byte a && (nat_lt 0 (length c) && list_all is_name_byte c))

abbrev pub code_by : Text → ℕ → Option Name
code_by s i = if are_sides (take i s) (drop (i + 1) s) then Some (named (take i s) (drop (i + 1) s)) else None

-- the code that a text is
abbrev pub code_in : Text → Option Name
code_in s = option_and_then (code_by s) (position (λ b. b == 58) s)

-- ---- the form of a value

-- the JSON value that a text is, as `serde_json` reads it, each number as it is written
abbrev pub json_in : Text → Option Json
json_in s = if is_some (read s) then document s else None

-- of a text that is neither a code nor WKT
abbrev pub form_by : Text → Option Json → Form
form_by s (Some (object ms)) = projjson (object ms)
form_by s o = other (string s)

abbrev pub form_past_code : Text → Form
form_past_code s = if is_wkt (lexemes s) then wkt (lexemes s) else form_by s (json_in s)

abbrev pub form_or : Text → Option Name → Form
form_or s (Some n) = code n
form_or s None = form_past_code s

-- no text is of two forms: a code has no bracket, PROJJSON begins with a brace, WKT with a letter
abbrev pub form_of_value : Json → Form
form_of_value (object ms) = projjson (object ms)
form_of_value (string s) = form_or s (code_in s)
form_of_value j = other j

-- ---- what a form says

abbrev pub identifiers : Form → List Name
identifiers (projjson j) = projjson_identifiers j
identifiers (code n) = with_pair (Some n)
identifiers (wkt ls) = wkt_identifiers ls
identifiers (number j) = []
identifiers (other j) = []

-- equal as JSON, or as WKT but for blanks between tokens
abbrev pub are_equal : Form → Form → Bool
are_equal (projjson i) (projjson j) = json_equal i j
are_equal (code m) (code n) = false
are_equal (wkt ls) (wkt ms) = are_same_lexemes ls ms
are_equal (number i) (number j) = json_equal i j
are_equal (other i) (other j) = json_equal i j
are_equal f g = false
