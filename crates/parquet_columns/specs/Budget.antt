-- How many bytes may be made of so many that are read.
use Rattle.std.specs.Prelude.{ℕ, ◌+◌, ◌*◌, length, codes, Option, None, Some}
use Rattle.arrow_values.specs.Tree.{Text}

abbrev pub budget : ℕ → ℕ
budget n = 1048576 + 32 * n

-- how many bytes a text has, if there is one
abbrev pub size_of : Option Text → ℕ
size_of None = 0
size_of (Some text) = length text

-- what is wrong with a file of which more would be made
abbrev pub too_large : Text
too_large = codes "a larger report"

abbrev pub within_budget : Text
within_budget = codes "a report of at most 1048576 bytes and 32 for each byte read"
