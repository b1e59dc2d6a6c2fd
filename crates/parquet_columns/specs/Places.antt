-- Where the children of a schema's root stand (docs/FORMAT.md, 4.4).
use Rattle.std.specs.Prelude.{ℕ, Bool, zero, suc, ◌+◌, ◌==◌, ◌&&◌, List, [], ◌∷◌, length, Option, Some, None, Result, Ok, if◌then◌else◌}
use Rattle.std.specs.List.{slice_get}
use Rattle.arrow_values.specs.Tree.{Text}
use Rattle.parquet_footer.specs.Element.{Element}
use Rattle.parquet_columns.specs.declared.fault.ElementFault.{ElementFault}
use Rattle.parquet_columns.specs.declared.fault.SchemaRule.TheVariants.{Children, Depth}
use Rattle.parquet_columns.specs.declared.places.Child as declared
use Rattle.parquet_columns.specs.Fault.{◌>>=◌, breaks}
use Rattle.parquet_columns.specs.Geometry.{count_of}
use Rattle.parquet_columns.specs.Levels.{deep_from}

-- a child of the root: its place, counted from the root, which is 0, and its name
pub record Child : Type 0 where
  pub at : ℕ
  pub name : Text

abbrev pub child : declared.Child → Child
child c = record { at = c.at; name = c.name.now }

abbrev pub child_at : ℕ → Element → Child
child_at at e = record { at = at; name = e.storage.name.bytes }

-- the children of the root, from a place on: behind each stand the elements below it, of which so many are still to come
unfoldable pub children_from : ℕ → ℕ → List Element → List Child
children_from at below [] = []
children_from at zero (e ∷ es) = child_at at e ∷ children_from (at + 1) (count_of e) es
children_from at (suc below) (e ∷ es) = children_from (at + 1) (below + count_of e) es

-- how many elements are missing below the last child
unfoldable pub missing_from : ℕ → List Element → ℕ
missing_from below [] = below
missing_from zero (e ∷ es) = missing_from (count_of e) es
missing_from (suc below) (e ∷ es) = missing_from (below + count_of e) es

-- where the number of children is wrong: at the first that is one too many, or behind the last element, where some are missing
abbrev pub wrong_at : Option Child → ℕ → ℕ
wrong_at None end = end
wrong_at (Some c) end = c.at

-- the children of the root, which are as many as it says, and below which no element is missing; the elements end there
abbrev pub is_whole : ℕ → ℕ → List Child → Bool
is_whole n missing cs = length cs == n && missing == 0

abbrev pub counted : ℕ → ℕ → ℕ → List Child → Result (List Child) ElementFault
counted n end missing cs = if is_whole n missing cs then Ok cs else breaks Children (wrong_at (slice_get cs n) end)

-- and no element is too deep
abbrev pub within : Option ℕ → List Child → Result (List Child) ElementFault
within None cs = Ok cs
within (Some at) cs = breaks Depth at

abbrev pub children_of_root : ℕ → List Element → Result (List Child) ElementFault
children_of_root n es = counted n (length es + 1) (missing_from 0 es) (children_from 1 0 es) >>= within (deep_from 1 [] es)
