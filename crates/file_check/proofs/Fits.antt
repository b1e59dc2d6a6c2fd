-- The first characters of a text that have room, one after another.
use Rattle.std.proofs.Common.{◌≡◌, ℕ, List, ◌++◌, drop}
use Rattle.std.specs.Str.{encode_utf8_all}
use Rattle.arrow_values.specs.Tree.{Text}
use Rattle.file_check.specs.Table.{fitting}

-- behind the text of the first characters stands that of the others that have room in what is left
abbrev pub FitsTo : ℕ → List ℕ → ℕ → ℕ → Text → Type 0
FitsTo room cs i left text = encode_utf8_all (fitting room cs) ≡ text ++ encode_utf8_all (fitting left (drop i cs))
