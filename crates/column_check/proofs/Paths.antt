-- The names of child fields on a path, and the type at its end.
use Rattle.std.proofs.Common.{◌≡◌, ◌≤◌, [], ◌∷◌, ◌++◌, None, Some, option_map, ap, refl, ◌∙◌, length, slice_index, slice_index_or, arith}
use Rattle.arrow_values.specs.Tree.{plain, null}
use Rattle.arrow_columns.specs.Types.{TypeTree, known}
use Rattle.geoarrow_layout.specs.FaultAt.{Path}
use Rattle.column_check.specs.ReasonFindings.{child_of, child_name, type_there, type_along, names_along}

-- a type without children has no names on any path
none_along : (p : Path) → names_along (known (plain null)) p ≡ []
none_along [] = refl
none_along (i ∷ p) = none_along p

-- where the first child field is missing, a path has no names
pub no_child_no_names : (t : TypeTree) (p : Path) → child_of t (slice_index p 0) ≡ None → names_along t p ≡ []
no_child_no_names t [] none = refl
no_child_no_names t (i ∷ p) none = ap (λ o. child_name o ++ names_along (type_there o) p) none ∙ none_along p

-- behind a type that is missing there is none
none_there : (p : Path) → type_along None p ≡ None
none_there [] = refl
none_there (i ∷ p) = none_there p

-- where the first child field of a path is missing, there is no type at its end
pub no_child_no_type : (t : TypeTree) (p : Path) → 1 ≤ length p → child_of t (slice_index_or p 0 0) ≡ None → type_along (Some t) p ≡ None
no_child_no_type t [] some none = absurd (omega (arith, some))
no_child_no_type t (i ∷ p) some none = ap (λ o. type_along (option_map (λ c. c.data_type) o) p) none ∙ none_there p
