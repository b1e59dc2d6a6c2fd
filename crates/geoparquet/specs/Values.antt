-- The metadata at the key `geo` as `serde_json` reads them, and single values of them.
use Rattle.std.specs.Prelude.{Option, option_and_then, unwrap_or}
use Rattle.serde_json.specs.Data.{Data, null}
use Rattle.serde_json.specs.Find.{get, as_str}
use Rattle.serde_json.specs.Read.{read}
use Rattle.arrow_values.specs.Tree.{Text}

-- the value that a text is; a text that is no JSON counts as null
abbrev pub geo_value : Text → Data
geo_value s = unwrap_or (read s) null

-- the member at a key of a value, where both are there
abbrev pub at : Text → Option Data → Option Data
at key found = option_and_then (get key) found

-- the text of a value, where it is one
abbrev pub text_of_value : Option Data → Option Text
text_of_value found = option_and_then as_str found
