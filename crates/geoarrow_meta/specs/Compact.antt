-- PROJJSON without blanks.
use Rattle.std.specs.Prelude.{Option, None, Some, if◌then◌else◌}
use Rattle.json.specs.Lex.{tokens}
use Rattle.json.specs.Print.{print}
use Rattle.arrow_values.specs.Tree.{Text as Bytes}
use Rattle.geoarrow_meta.specs.CrsText.{is_projjson_text}

-- a text that is PROJJSON, with the same tokens and no blanks between them
abbrev pub compact_projjson : Bytes → Option Bytes
compact_projjson s = if is_projjson_text s then Some (print (tokens s)) else None
