-- The files that a folder stands for.
use Rattle.std.specs.Prelude.{◌&&◌, ◌||◌, ◌==◌, not, Bool, false, ℕ, List, [], ◌∷◌, codes}
use Rattle.std.specs.List.{list_any, ends_with}
use Rattle.std.specs.Cmp.Lexicographic.{slice_cmp}
use Rattle.std.specs.Ordering.{nat_cmp}
use Rattle.std.specs.declared.cmp.Ordering.{Ordering}

-- the ends of the names of the files
abbrev pub endings : List (List ℕ)
endings =
    codes ".parquet"
    ∷ codes ".geoparquet"
    ∷ codes ".arrow"
    ∷ codes ".feather"
    ∷ codes ".arrows"
    ∷ codes ".jsonl"
    ∷ codes ".ndjson"
    ∷ []

-- names that begin with `_` or `.` are left out
abbrev pub is_left_out : List ℕ → Bool
is_left_out [] = false
is_left_out (b ∷ bs) = (b == 95) || (b == 46)

-- a folder stands for its file of that name
abbrev pub is_taken : List ℕ → Bool
is_taken name = not (is_left_out name) && list_any (λ ending. ends_with (λ a b. a == b) name ending) endings

-- the order of paths is that of their bytes
abbrev pub order : List ℕ → List ℕ → Ordering
order one other = slice_cmp nat_cmp one other
