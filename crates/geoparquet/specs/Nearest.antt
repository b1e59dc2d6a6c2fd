-- The name that a text is most like.
use Rattle.std.specs.Prelude.{ℕ, ◌*◌, ◌&&◌, ◌||◌, Bool, false, bytes_eq, List, [], ◌∷◌, length, map, nat_eq, nat_le, nat_lt, Option, None, Some, if◌then◌else◌}
use Rattle.std.specs.Str.{chars}
use Rattle.std.specs.Char.{to_ascii_lowercase}
use Rattle.strsim.specs.Edits.{levenshtein_row}
use Rattle.arrow_values.specs.Tree.{Text}

-- how many insertions, deletions and substitutions lead from one text to the other, letters of ASCII alike
abbrev pub lowered : Text → Text
lowered s = map to_ascii_lowercase s

abbrev pub distance : Text → Text → ℕ
distance s t = levenshtein_row nat_eq (chars s) (chars t) (length (chars t))

abbrev pub edits : Text → Text → ℕ
edits found name = distance (lowered found) (lowered name)

-- at most so many, and less than one for five bytes of the name
abbrev pub is_near_by : ℕ → ℕ → ℕ → Bool
is_near_by limit edits size = nat_le edits limit && nat_lt (5 * edits) size

abbrev pub is_near : ℕ → Text → Text → Bool
is_near limit found name = is_near_by limit (edits found name) (length name)

-- the first name that is so near
abbrev pub first_near : ℕ → Text → List Text → Option Text
first_near limit found [] = None
first_near limit found (name ∷ names) = if is_near limit found name then Some name else first_near limit found names

-- the first of those that differ in letters alone, else of those with one edit, else of those with two
abbrev pub else_near : Option Text → Option Text → Option Text
else_near (Some name) other = Some name
else_near None other = other

abbrev pub of_others : Text → List Text → Option Text
of_others found names = else_near (first_near 0 found names) (else_near (first_near 1 found names) (first_near 2 found names))

-- the name, where the text is none of the names
abbrev pub is_name : Text → List Text → Bool
is_name found [] = false
is_name found (name ∷ names) = bytes_eq name found || is_name found names

abbrev pub nearest : Text → List Text → Option Text
nearest found names = if is_name found names then None else of_others found names
