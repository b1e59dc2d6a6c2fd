-- What stands at a place, as a finding shows it.
use Rattle.std.specs.Prelude.{◌++◌, List, codes, length, take, nat_lt, if◌then◌else◌}
use Rattle.std.specs.List.{join_by}
use Rattle.std.specs.Str.{chars, encode_utf8_all}
use Rattle.json.specs.Json.{Json}
use Rattle.json.specs.Print.{print}
use Rattle.json.specs.Tree.{json_tokens}
use Rattle.arrow_values.specs.Tree.{Text}
use Rattle.arrow_columns.specs.Types.{TypeTree}
use Rattle.arrow_columns.specs.Notation.{type_text}

-- at most 120 characters of a text, and two points behind them where there are more
abbrev pub shown : Text → Text
shown text = if nat_lt 120 (length (chars text)) then encode_utf8_all (take 120 (chars text)) ++ codes ".." else text

-- a type is shown by its notation
abbrev pub type_shown : TypeTree → Text
type_shown t = shown (type_text t)

-- names are shown one behind another, with commas between them
abbrev pub names_shown : List Text → Text
names_shown names = shown (join_by (λ name. name) (codes ", ") names)

-- a value is shown by its text without blanks
abbrev pub shown_value : Json → Text
shown_value j = shown (print (json_tokens j))
