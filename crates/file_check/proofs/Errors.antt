-- Findings that count as errors.
use Rattle.std.proofs.Common.{◌≡◌, ◌||◌, List, [], ◌∷◌, map, refl, ap}
use Rattle.std.specs.List.{list_any}
use Rattle.same_columns.specs.Unlike.{unlike_view}
use Rattle.same_columns.specs.declared.unlike.Unlike.{Unlike}
use Rattle.file_check.specs.Same.{is_error}

pub any_error : (us : List Unlike) → list_any (λ u. is_error (unlike_view u)) us ≡ list_any is_error (map unlike_view us)
any_error [] = refl
any_error (u ∷ us) = ap (λ b. is_error (unlike_view u) || b) (any_error us)
