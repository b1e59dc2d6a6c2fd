-- What the contract of `canonical_field` says of an answer, and what it is to be.
use Rattle.std.specs.Prelude.{◌≡◌}
use Rattle.arrow_values.specs.Tree.{FieldTree}
use Rattle.arrow_values.specs.Errors.{IsGeoMemory}
use Rattle.arrow_values.specs.declared.error.GeoArrowError.{GeoArrowError}
use Rattle.geoarrow_meta.specs.Written.{NestsWithin}
use Rattle.geoarrow_schema.specs.declared.types.GeoArrowType.{GeoArrowType}
use Rattle.geoarrow_schema.specs.Types.{meta_of}
use Rattle.geoarrow_schema.specs.Reads.{HasGeoArrowName, Reads, IsRefusedBy}
use Rattle.geoarrow_schema.specs.Normal.{IsCanonical, ReadsShallow}

-- n may be answered for f, by the clauses `ok` and `nested` of `canonical_field`
abbrev pub IsAnswer : FieldTree → FieldTree → Type 0
IsAnswer f n = IsCanonical f n × ((g : GeoArrowType) → Reads f g → ReadsShallow n g)

-- f is read as a type whose CRS value, if there is one, is nested at most 100 levels
abbrev pub IsShallow : FieldTree → Type 0
IsShallow f = (g : GeoArrowType) × Reads f g × NestsWithin 100 (meta_of g).crs.value

-- a field has one canonical field
abbrev pub HasOneCanonical : Type 0
HasOneCanonical = (f n p : FieldTree) → IsCanonical f n → IsCanonical f p → n ≡ p

-- what is answered for a shallow field is answered for itself, and nothing else is
abbrev pub IsItsOwnCanonical : Type 0
IsItsOwnCanonical = (f n : FieldTree) → IsShallow f → IsAnswer f n → IsAnswer n n × ((p : FieldTree) → IsCanonical n p → p ≡ n)

-- so it is shallow too, has a GeoArrow name, and is refused only where memory runs out
abbrev pub IsAnsweredAgain : Type 0
IsAnsweredAgain =
    (f n : FieldTree) → IsShallow f → IsAnswer f n
    → IsShallow n × HasGeoArrowName n × ((e : GeoArrowError) → IsRefusedBy n e → IsGeoMemory e)
