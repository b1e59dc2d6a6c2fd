-- What is read of a source, behind bytes that are held.
use Rattle.std.specs.Prelude.{◌≡◌, ◌<◌, ◌≤◌, ℕ, List, ◌++◌, length, Option}
use Rattle.std.specs.Io.KnownBytes.{Consumes, IsAtEnd}

-- what the source gives stands behind the bytes that were held
abbrev pub ReadsOn : Option (List ℕ) → Option (List ℕ) → List ℕ → List ℕ → Type 0
ReadsOn old new held then = (more : List ℕ) × (then ≡ held ++ more) × Consumes old new more

-- the source gives so many bytes, which stand behind those that were held; none only at its end
abbrev pub ReadsBehind : ℕ → Option (List ℕ) → Option (List ℕ) → List ℕ → List ℕ → Type 0
ReadsBehind n old new held then =
    (more : List ℕ) × (then ≡ held ++ more) × Consumes old new more × (length more ≡ n) × (n ≡ 0 → IsAtEnd new)

-- the source gives these bytes, and no more than n; fewer only at its end
abbrev pub GivesUpTo : ℕ → Option (List ℕ) → Option (List ℕ) → List ℕ → Type 0
GivesUpTo n old new bytes = Consumes old new bytes × (length bytes ≤ n) × (length bytes < n → IsAtEnd new)
