-- Where the type of a stored field does not fit an element: what leads down to the first part that does not (docs/FORMAT.md, 4.5).
use Rattle.std.specs.Prelude.{ℕ, suc, Bool, true, false, ◌&&◌, List, [], ◌∷◌, ◌++◌, Option, Some, None, if◌then◌else◌}
use Rattle.std.specs.List.{slice_get}
use Rattle.std.specs.Str.{bytes_eq}
use Rattle.arrow_values.specs.Tree.{Text, Tree, plain, list, large_list, fixed_size_list, struct, union, FieldTrees, no_fields, field}
use Rattle.arrow_columns.specs.Types.{TypeTree, ColumnTree}
use Rattle.arrow_columns.specs.Below.{below}
use Rattle.arrow_columns.specs.Outlines.{outline}
use Rattle.arrow_columns.specs.declared.outline.Outline.TheVariants.{Storage}
use Rattle.parquet_columns.specs.Fits.{item_of, fields_of, fits}

-- fields of the same names in the same order
abbrev pub are_named_alike : FieldTrees → FieldTrees → Bool
are_named_alike no_fields no_fields = true
are_named_alike no_fields (field o u c k gs) = false
are_named_alike (field n t b m fs) no_fields = false
are_named_alike (field n t b m fs) (field o u c k gs) = bytes_eq n o && are_named_alike fs gs

-- the places that lead down to the first part of a type that does not fit: that of an item, which is 0, and that of a field; a struct of other fields is such
-- a part itself
abbrev pub item_places : (Tree → List ℕ) → Option Tree → List ℕ
item_places down None = []
item_places down (Some s) = 0 ∷ down s

abbrev pub struct_places : (FieldTrees → Bool) → (FieldTrees → List ℕ) → Option FieldTrees → List ℕ
struct_places alike down None = []
struct_places alike down (Some gs) = if alike gs then down gs else []

abbrev mutual
  pub places : Tree → Tree → List ℕ
  places (plain p) s = []
  places (list n t b m) s = item_places (places t) (item_of s)
  places (large_list n t b m) s = item_places (places t) (item_of s)
  places (fixed_size_list n t b m z) s = item_places (places t) (item_of s)
  places (struct fs) s = struct_places (are_named_alike fs) (field_places 0 fs) (fields_of s)
  places (union ms mode) s = []

  pub field_places : ℕ → FieldTrees → FieldTrees → List ℕ
  field_places k no_fields gs = []
  field_places k (field n t b m fs) no_fields = []
  field_places k (field n t b m fs) (field o u c l gs) = if fits t u then field_places (suc k) fs gs else k ∷ places t u

abbrev pub type_places : TypeTree → TypeTree → List ℕ
type_places t s = places (outline Storage t) (outline Storage s)

-- the type to which places lead, as far as there is one, and the names on the way
abbrev pub type_or : TypeTree → Option ColumnTree → TypeTree
type_or t None = t
type_or t (Some c) = c.data_type

abbrev pub name_in : Option ColumnTree → List Text
name_in None = []
name_in (Some c) = c.name ∷ []

abbrev pub inner : TypeTree → List ℕ → TypeTree
inner t [] = t
inner t (k ∷ ks) = inner (type_or t (slice_get (below t) k)) ks

abbrev pub names_to : TypeTree → List ℕ → List Text
names_to t [] = []
names_to t (k ∷ ks) = name_in (slice_get (below t) k) ++ names_to (type_or t (slice_get (below t) k)) ks
