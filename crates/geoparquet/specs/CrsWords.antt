-- The name of a CRS, for people (docs/FORMAT.md, 5).
use Rattle.std.specs.Prelude.{◌++◌, codes, Option, None, Some, option_and_then, unwrap_or}
use Rattle.json.specs.Json.{Json}
use Rattle.json.specs.Find.{get, as_number, as_str}
use Rattle.arrow_values.specs.Tree.{Text}
use Rattle.crs_identity.specs.Forms.{Said, unknown, value, srid}
use Rattle.geoparquet.specs.Findings.{shown}

abbrev pub else_text : Option Text → Option Text → Option Text
else_text (Some s) other = Some s
else_text None other = other

-- a code: a text, or a number
abbrev pub code_word : Option Json → Option Text
code_word None = None
code_word (Some j) = else_text (as_str j) (as_number j)

-- an authority and its code
abbrev pub identifier_word : Option Text → Option Text → Option Text
identifier_word (Some authority) (Some code) = Some (authority ++ (codes ":" ++ code))
identifier_word authority code = None

abbrev pub id_word : Option Json → Option Text
id_word None = None
id_word (Some j) = identifier_word (option_and_then as_str (get (codes "authority") j)) (code_word (get (codes "code") j))

-- the name of an object, or the text itself
abbrev pub name_word : Json → Text
name_word j = unwrap_or (else_text (option_and_then as_str (get (codes "name") j)) (as_str j)) (codes "a CRS")

-- by the id, if it has one
abbrev pub or_name : Option Text → Json → Text
or_name (Some s) j = s
or_name None j = name_word j

abbrev pub value_word : Json → Text
value_word j = or_name (id_word (get (codes "id") j)) j

abbrev pub said_word : Said → Text
said_word unknown = codes "unknown"
said_word (value j) = value_word j
said_word (srid j) = value_word j

-- as a finding shows it
abbrev pub crs_word : Said → Text
crs_word s = shown (said_word s)
