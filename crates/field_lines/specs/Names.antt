-- The words of the line format.
use Rattle.std.specs.Prelude.{List, [], ◌∷◌, Option, codes, bytes_eq, find}
use Rattle.arrow_values.specs.Tree.{Text, Plain, null, boolean, int8, int16, int32, int64, uint8, uint16, uint32, uint64, float16, float32, float64, date32, date64, binary, large_binary, binary_view, utf8, large_utf8, utf8_view}
use Rattle.arrow_values.specs.declared.tree.UnionMode.{UnionMode}
use Rattle.arrow_values.specs.declared.tree.UnionMode.TheVariants.{Sparse, Dense}
use Rattle.arrow_columns.specs.Notation.{plain_name}

-- the plain types
abbrev pub plain_types : List Plain
plain_types = null ∷ boolean ∷ int8 ∷ int16 ∷ int32 ∷ int64 ∷ uint8 ∷ uint16 ∷ uint32 ∷ uint64 ∷ float16 ∷ float32 ∷ float64 ∷ date32 ∷ date64 ∷ binary ∷ large_binary ∷ binary_view ∷ utf8 ∷ large_utf8 ∷ utf8_view ∷ []

-- the plain type of a word
abbrev pub plain_named : Text → Option Plain
plain_named word = find (λ p. bytes_eq word (plain_name p)) plain_types

-- the word of a union's mode
abbrev pub mode_name : UnionMode → Text
mode_name Sparse = codes "sparse"
mode_name Dense = codes "dense"

-- the mode of a word
abbrev pub mode_named : Text → Option UnionMode
mode_named word = find (λ mode. bytes_eq word (mode_name mode)) (Sparse ∷ Dense ∷ [])
