-- Places in a JSON value, as pointers (RFC 6901): `~` is written `~0`, and `/` is written `~1`.
use Rattle.std.specs.Prelude.{ℕ, ◌==◌, ◌++◌, codes, decimal, flat_map, if◌then◌else◌}
use Rattle.std.specs.Char.{encode_utf8}
use Rattle.std.specs.Str.{chars}
use Rattle.arrow_values.specs.Tree.{Text}

abbrev pub escaped_char : ℕ → Text
escaped_char c = if c == 126 then codes "~0" else if c == 47 then codes "~1" else encode_utf8 c

abbrev pub escaped : Text → Text
escaped key = flat_map escaped_char (chars key)

-- the place of a member, and that of an item, of what stands at a place
abbrev pub member_place : Text → Text → Text
member_place place key = place ++ (codes "/" ++ escaped key)

abbrev pub item_place : Text → ℕ → Text
item_place place index = place ++ (codes "/" ++ decimal index)
