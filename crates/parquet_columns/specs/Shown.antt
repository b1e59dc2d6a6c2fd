-- A text as a finding shows it.
use Rattle.std.specs.Prelude.{◌++◌, codes, length, take, nat_lt, if◌then◌else◌}
use Rattle.std.specs.Str.{chars, encode_utf8_all}
use Rattle.arrow_values.specs.Tree.{Text}

-- at most 120 characters of it, and two points behind them where there are more
abbrev pub shown : Text → Text
shown text = if nat_lt 120 (length (chars text)) then encode_utf8_all (take 120 (chars text)) ++ codes ".." else text
