-- What is found of a column, as contracts see it.
use Rattle.std.specs.Prelude.{ℕ, zero, suc, ◌-◌, ◌^◌, min, List, [], ◌∷◌, length, map, Bool, option_map, if◌then◌else◌, string_bytes}
use Rattle.column_check.specs.Parts.{Spot}
use Rattle.column_check.specs.declared.code.WarningCode.{WarningCode}
use Rattle.column_check.specs.declared.warning.Warning.{Warning}

-- a finding: its code, where it is, what stands and what is wanted there, and how many more of its code it stands for
abbrev pub Said : Type 0
Said = WarningCode × Spot × ℕ

abbrev pub said : Warning → Said
said w = (w.code, (map string_bytes w.path.items, option_map string_bytes w.pointer, option_map string_bytes w.found, w.wanted), w.more)

-- one at a place, if the test holds
abbrev pub said_if : WarningCode → Bool → Spot → List Said
said_if code holds spot = if holds then (code, spot, 0) ∷ [] else []

-- how many there are, as far as a number of 64 bits goes
abbrev pub counted : List Spot → ℕ
counted spots = min (length spots) (2 ^ 64 - 1)

-- at places: of each of the first so many one, and one more, which stands for all that are left
abbrev pub at_most : ℕ → WarningCode → List Spot → List Said
at_most n code [] = []
at_most zero code (spot ∷ spots) = (code, spot, counted spots) ∷ []
at_most (suc n) code (spot ∷ spots) = (code, spot, 0) ∷ at_most n code spots

-- at places, at most sixteen
abbrev pub at_each : WarningCode → List Spot → List Said
at_each code spots = at_most 15 code spots
