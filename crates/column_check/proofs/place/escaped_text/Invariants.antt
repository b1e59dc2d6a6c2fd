use Rattle.std.proofs.Common.{◌≡◌, flat_map, string_bytes, take}
use Rattle.column_check.specs.Places.{escaped_char}
use Rattle.column_check.proofs.place.escaped_text.Given as goal

abbrev pub invariant-loop-character : goal.invariant-loop-character
invariant-loop-character l = string_bytes l.text ≡ flat_map escaped_char (take l.character-index l.characters)
