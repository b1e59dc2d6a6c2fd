-- Bytes that are no text, as a finding shows them: ASCII as it is, and any other byte in hex, as `\xff`.
use Rattle.std.specs.Prelude.{◌++◌, ◌+◌, ◌/◌, ◌%◌, ℕ, List, codes, flat_map, nat_lt, if◌then◌else◌}
use Rattle.std.specs.Char.{encode_utf8}
use Rattle.arrow_values.specs.Tree.{Text}

-- the character of a digit from 0 to 15
abbrev pub hex_digit : ℕ → ℕ
hex_digit d = if nat_lt d 10 then 48 + d else 87 + d

abbrev pub spelled_byte : ℕ → Text
spelled_byte b =
    if nat_lt b 128 then encode_utf8 b
    else codes "\\x" ++ (encode_utf8 (hex_digit (b / 16)) ++ encode_utf8 (hex_digit (b % 16)))

abbrev pub spelled : List ℕ → Text
spelled bytes = flat_map spelled_byte bytes
