-- How many elements of a list have a property, and at which places.
use Rattle.std.specs.Prelude.{◌≡◌, ◌⊎◌, ◌+◌, ℕ, List, [], ◌∷◌, Bool, true, false, cond}
use Rattle.arrow_values.specs.Tree.{FieldTree}
use Rattle.geoarrow_schema.specs.declared.types.GeoArrowType.{GeoArrowType}
use Rattle.geoarrow_schema.specs.Reads.{Reads}
use Rattle.geoarrow_columns.specs.declared.check.Column.{Column}
use Rattle.geoarrow_columns.specs.declared.check.Column.TheVariants.{Geometry, Inferred, Other, Faulty}
use Rattle.geoarrow_columns.specs.Report.{IsRefused, IsUnread}

-- the field is read as a type
abbrev pub IsGeometry : FieldTree → Type 0
IsGeometry f = (g : GeoArrowType) × Reads f g

-- the field is refused: with a GeoArrow name for any reason, without one for its metadata text
abbrev pub IsFaulty : FieldTree → Type 0
IsFaulty f = IsRefused f ⊎ IsUnread f

module _ {X : Type 0} (P : X → Type 0) where
  -- n elements of the list have P
  abbrev pub IsCount : List X → ℕ → Type 0
  IsCount [] n = n ≡ 0
  IsCount (x ∷ xs) n = (P x × ((m : ℕ) × (n ≡ 1 + m) × IsCount xs m)) ⊎ (¬ P x × IsCount xs n)

  -- these are the places of those that have P, in order, where the first element is at place n
  abbrev pub ArePlaces : ℕ → List X → List ℕ → Type 0
  ArePlaces n [] is = is ≡ []
  ArePlaces n (x ∷ xs) is = (P x × ((js : List ℕ) × (is ≡ n ∷ js) × ArePlaces (n + 1) xs js)) ⊎ (¬ P x × ArePlaces (n + 1) xs is)

-- the entry of a report is a geometry
abbrev pub is_geometry : Column → Bool
is_geometry (Geometry g) = true
is_geometry (Inferred g) = false
is_geometry Other = false
is_geometry (Faulty fault) = false

abbrev pub is_faulty : Column → Bool
is_faulty (Geometry g) = false
is_faulty (Inferred g) = false
is_faulty Other = false
is_faulty (Faulty fault) = true

-- the places of the faulty entries, where the first entry is at place n
abbrev pub places_of : ℕ → List Column → List ℕ
places_of n [] = []
places_of n (c ∷ cs) = cond (is_faulty c) (n ∷ places_of (n + 1) cs) (places_of (n + 1) cs)
