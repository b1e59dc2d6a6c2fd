-- Texts as they are shown to people: on one line, so that they change nothing of a terminal (docs/FORMAT.md, 2.7).
use Rattle.std.specs.Prelude.{ℕ, ◌||◌, ◌&&◌, ◌==◌, nat_le, Bool, List, [], ◌∷◌, flat_map, if◌then◌else◌}
use Rattle.std.specs.Str.{chars, encode_utf8_all}
use Rattle.std.specs.Char.{is_control}
use Rattle.std.specs.Char.Escape.{escape_unicode}
use Rattle.arrow_values.specs.Tree.{Text}

abbrev pub is_within : ℕ → ℕ → ℕ → Bool
is_within first last c = nat_le first c && nat_le c last

-- a control character; a blank that has no width, or a mark of direction; an embedding or override of direction; an isolate; a byte order mark
abbrev pub is_hidden : ℕ → Bool
is_hidden c = is_control c || (is_within 0x200b 0x200f c || (is_within 0x202a 0x202e c || (is_within 0x2066 0x2069 c || c == 0xfeff)))

-- a character, or its number, as `\u{1b}`
abbrev pub shown_as : ℕ → List ℕ
shown_as c = if is_hidden c then escape_unicode c else c ∷ []

-- the same, but a blank in place of a control character
abbrev pub blanked_as : ℕ → List ℕ
blanked_as c = if is_control c then 32 ∷ [] else shown_as c

abbrev pub shown : Text → Text
shown text = encode_utf8_all (flat_map shown_as (chars text))

abbrev pub blanked : Text → Text
blanked text = encode_utf8_all (flat_map blanked_as (chars text))
