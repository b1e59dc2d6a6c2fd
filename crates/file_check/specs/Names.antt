-- The names of files.
use Rattle.std.specs.Prelude.{◌==◌, Bool, false, [], ◌∷◌, Option, None, Some, if◌then◌else◌}
use Rattle.arrow_values.specs.Tree.{Text}

-- the name that the lines of JSON give a file; `-` is standard input, which has none
abbrev pub is_hyphen : Text → Bool
is_hyphen (b ∷ []) = b == 45
is_hyphen name = false

abbrev pub name_of : Text → Option Text
name_of file = if is_hyphen file then None else Some file
