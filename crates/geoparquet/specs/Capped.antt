-- Findings of one code in one column: sixteen at most, the last of which stands for the others, too (docs/FORMAT.md, 5.1).
use Rattle.std.specs.Prelude.{ℕ, ◌-◌, nat_lt, List, [], ◌∷◌, length, take, if◌then◌else◌}
use Rattle.geoparquet.specs.Findings.{Finding}

-- a finding that stands for so many more
abbrev pub standing_for : ℕ → Finding → Finding
standing_for n f = record f { more = n }

-- the last of some
abbrev pub last_standing_for : ℕ → List Finding → List Finding
last_standing_for n [] = []
last_standing_for n (f ∷ []) = standing_for n f ∷ []
last_standing_for n (f ∷ g ∷ fs) = f ∷ last_standing_for n (g ∷ fs)

unfoldable pub capped : List Finding → List Finding
capped fs = if nat_lt 16 (length fs) then last_standing_for (length fs - 16) (take 16 fs) else fs
