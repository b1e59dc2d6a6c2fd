-- Codes of coordinate reference systems, and the one where `crs` is absent.
use Rattle.std.specs.Prelude.{codes, decimal, Option, None, Some}
use Rattle.serde_json.specs.Data.{Data, number, unsigned, string}
use Rattle.arrow_values.specs.Tree.{Text}

-- a code: a text, or a whole number
abbrev pub code_text : Option Data → Option Text
code_text (Some (string s)) = Some s
code_text (Some (number (unsigned n))) = Some (decimal n)
code_text found = None

-- the CRS where `crs` is absent
abbrev pub default_identifier : Text
default_identifier = codes "OGC:CRS84"
