-- How what is said of a column goes together with what its field is read as, or taken for.
use Rattle.std.specs.Prelude.{◌≡◌, ◌||◌, Bool, true, false, Option, None, option_and_then}
use Rattle.serde_json.specs.Read.{read}
use Rattle.arrow_values.specs.Tree.{Text, FieldTree}
use Rattle.arrow_values.specs.Texts.{extension_name, extension_metadata}
use Rattle.arrow_columns.specs.Column.{column_of}
use Rattle.geoarrow_layout.specs.declared.native_kinds.Kind.{Kind}
use Rattle.geoarrow_meta.specs.declared.metadata.Metadata.{Metadata}
use Rattle.geoarrow_meta.specs.Read.{some_has_float}
use Rattle.geoarrow_native.specs.Column.{ReadsAs}
use Rattle.geoarrow_schema.specs.declared.types.GeoArrowType.{GeoArrowType}
use Rattle.geoarrow_schema.specs.Types.{kind_of, meta_of}
use Rattle.geoarrow_schema.specs.Reads.{HasGeoArrowName, Reads, ReadsAsNone}
use Rattle.geoarrow_schema.specs.Infers.{InfersAs, Infers, InfersNone}
use Rattle.column_check.specs.GeometryNames.{may_be_taken}
use Rattle.column_check.specs.OldNames.{has_old_name}
use Rattle.column_check.specs.Metadata.{Values, values_of, are_planar}
use Rattle.column_check.specs.Warnings.{is_empty_text}
use Rattle.column_check.specs.Finding.{IsFinding}
use Rattle.column_check.specs.declared.finding.Finding.{Finding as ColumnFinding}
use Rattle.column_check.specs.declared.finding.Finding.TheVariants.{Geometry, Invalid, Inferred}
use Rattle.column_check.specs.declared.finding.Reasons.TheVariants.{UnknownExtension}

-- the values of a metadata
abbrev pub values_in : Metadata → Values
values_in m = record { crs = m.crs.value; crs_type = m.crs.crs_type; edges = m.edges }

-- the finding is that of geometries of this kind and these values
abbrev pub SaysGeometry : ColumnFinding → Kind → Values → Type 0
SaysGeometry (Geometry g) k v = (g.kind ≡ k) × (values_of g.metadata ≡ v)
SaysGeometry r k v = ⊥

-- where the field is read as a type, the finding is that type
abbrev pub AgreesWithType : Bool → ColumnFinding → FieldTree → Type 0
AgreesWithType infer r f = IsFinding infer (column_of f) r → (g : GeoArrowType) → Reads f g → SaysGeometry r (kind_of g) (values_in (meta_of g))

-- the metadata text is the empty one, or its edges are planar by name: it denotes values, and `geoarrow_schema` refuses it
abbrev pub is_odd_text : Option Text → Bool
is_odd_text t = is_empty_text t || are_planar (option_and_then read t)

-- where the finding is geometries with whole numbers in the CRS, and the field has neither an old extension name nor such a metadata text,
-- the field is read as that kind and each metadata of these values
abbrev pub IsReadWhereWhole : Bool → ColumnFinding → FieldTree → Type 0
IsReadWhereWhole infer (Geometry g) f = IsFinding infer (column_of f) (Geometry g) → some_has_float (values_of g.metadata).crs ≡ false
    → has_old_name (extension_name f) ≡ false → is_odd_text (extension_metadata f) ≡ false → (m : Metadata) → values_in m ≡ values_of g.metadata → ReadsAs f g.kind m
IsReadWhereWhole infer r f = Unit {0}

-- the field has one of GeoArrow's extension names, unless it has an old one of them
abbrev pub HasNameUnlessOld : FieldTree → Type 0
HasNameUnlessOld f = has_old_name (extension_name f) ≡ false → HasGeoArrowName f

-- where the finding is invalid under one of GeoArrow's names, old or new, the field is refused; under no such name nothing is read
abbrev pub RefusesWithReading : Bool → ColumnFinding → FieldTree → Type 0
RefusesWithReading infer (Geometry g) f = IsFinding infer (column_of f) (Geometry g) → HasNameUnlessOld f
RefusesWithReading infer (Invalid UnknownExtension) f = IsFinding infer (column_of f) (Invalid UnknownExtension) → ¬ HasGeoArrowName f
RefusesWithReading infer (Invalid r) f = IsFinding infer (column_of f) (Invalid r) → HasNameUnlessOld f × ReadsAsNone f
RefusesWithReading infer r f = IsFinding infer (column_of f) r → ¬ HasGeoArrowName f

-- a field with an old extension name has none of GeoArrow's
abbrev pub PassesOverOldNames : FieldTree → Type 0
PassesOverOldNames f = has_old_name (extension_name f) ≡ true → ¬ HasGeoArrowName f

-- a field whose metadata text is the empty one, or has edges that are planar by name, is read as nothing
abbrev pub ReadsNoOddText : FieldTree → Type 0
ReadsNoOddText f = is_odd_text (extension_metadata f) ≡ true → ReadsAsNone f

-- the finding is that this kind and these values are inferred
abbrev pub SaysInferred : ColumnFinding → Kind → Values → Type 0
SaysInferred (Inferred g) k v = (g.kind ≡ k) × (values_of g.metadata ≡ v)
SaysInferred r k v = ⊥

-- where a type is inferred for a field without an extension name whose name allows its kind, the finding, with inference, is that type
abbrev pub AgreesWithInference : ColumnFinding → FieldTree → Type 0
AgreesWithInference r f = IsFinding true (column_of f) r → extension_name f ≡ None
    → (g : GeoArrowType) → may_be_taken f.name (kind_of g) ≡ true → Infers f g → SaysInferred r (kind_of g) (values_in (meta_of g))

-- where the finding is inferred with whole numbers in the CRS, and the field has no such metadata text, that kind and each metadata of these
-- values are inferred for the field
abbrev pub IsInferredWhereWhole : Bool → ColumnFinding → FieldTree → Type 0
IsInferredWhereWhole infer (Inferred g) f = IsFinding infer (column_of f) (Inferred g) → some_has_float (values_of g.metadata).crs ≡ false
    → is_odd_text (extension_metadata f) ≡ false → (m : Metadata) → values_in m ≡ values_of g.metadata → InfersAs f g.kind m
IsInferredWhereWhole infer r f = Unit {0}

-- nothing is inferred for a field with such a metadata text
abbrev pub InfersNoOddText : FieldTree → Type 0
InfersNoOddText f = is_odd_text (extension_metadata f) ≡ true → InfersNone f
