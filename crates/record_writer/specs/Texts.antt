-- Metadata as they stand in memory (Arrow, "The Arrow C data interface"): how many entries, and of
-- each the key and the text, both behind their length.
use Rattle.std.specs.Prelude.{ℕ, List, [], ◌∷◌, ◌++◌, length, Option, Some, None}
use Rattle.arrow_values.specs.Tree.{Text, Metadata}
use Rattle.record_wire.specs.Write.{word}

abbrev pub text_bytes : Text → List ℕ
text_bytes text = word (length text) ++ text

abbrev pub entries_bytes : Metadata → List ℕ
entries_bytes [] = []
entries_bytes (e ∷ m) = (text_bytes e.0 ++ text_bytes e.1) ++ entries_bytes m

-- none of a column that has no metadata
abbrev pub metadata_bytes : Metadata → Option (List ℕ)
metadata_bytes [] = None
metadata_bytes (e ∷ m) = Some (word (length (e ∷ m)) ++ entries_bytes (e ∷ m))
