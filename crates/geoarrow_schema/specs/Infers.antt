-- What is inferred for a field without a GeoArrow name.
use Rattle.std.specs.Prelude.{◌≡◌, ◌⊎◌, None, Result, MatchResult, cond, codes, string_bytes, ⊤}
use Rattle.arrow_values.specs.Tree.{Text, Tree, fixed_size_list, struct, FieldTree}
use Rattle.arrow_values.specs.Texts.{extension_name, extension_metadata}
use Rattle.arrow_values.specs.Errors.{IsGeoMemory}
use Rattle.arrow_values.specs.declared.error.GeoArrowError.{GeoArrowError}
use Rattle.arrow_values.specs.declared.error.GeoArrowError.TheVariants.{Arrow, InvalidGeoArrow}
use Rattle.geoarrow_layout.specs.declared.native_kinds.NativeKind.TheVariants.{Point}
use Rattle.geoarrow_layout.specs.declared.native_kinds.Kind.{Kind}
use Rattle.geoarrow_layout.specs.declared.native_kinds.Kind.TheVariants.{Native, Wkb, Wkt}
use Rattle.geoarrow_layout.specs.Inferred.{InferredAs, is_float64, are_float64}
use Rattle.geoarrow_layout.specs.Layouts.{layout}
use Rattle.geoarrow_meta.specs.declared.metadata.Metadata.{Metadata}
use Rattle.geoarrow_meta.specs.Read.{DenotesMetadata, TextRefusedAs}
use Rattle.geoarrow_schema.specs.declared.types.GeoArrowType.{GeoArrowType}
use Rattle.geoarrow_schema.specs.Types.{kind_of, meta_of}
use Rattle.geoarrow_schema.specs.Reads.{HasGeoArrowName, Reads, ReadsAlone, ReadsAsNone, FieldRefusedAs}

-- the field has no GeoArrow name, its metadata text denotes the metadata, and the kind is inferred from its tree
unfoldable pub InfersAs : FieldTree → Kind → Metadata → Type 0
InfersAs f k m = ¬ HasGeoArrowName f × DenotesMetadata (extension_metadata f) m × InferredAs f.tree k

-- the type is inferred for the field
abbrev pub Infers : FieldTree → GeoArrowType → Type 0
Infers f g = InfersAs f (kind_of g) (meta_of g)

-- nothing is inferred for the field
abbrev pub InfersNone : FieldTree → Type 0
InfersNone f = (k : Kind) (m : Metadata) → ¬ InfersAs f k m

-- no other kind and metadata are inferred for the field
abbrev pub InfersAlone : FieldTree → GeoArrowType → Type 0
InfersAlone f g = (k : Kind) (m : Metadata) → InfersAs f k m → (k ≡ kind_of g) × (m ≡ meta_of g)

-- the field is read as the type, or the type is inferred for it
abbrev pub ReadsOrInfers : FieldTree → GeoArrowType → Type 0
ReadsOrInfers f g = Reads f g ⊎ Infers f g

-- it is read as no other, and no other is inferred
abbrev pub ReadsOrInfersAlone : FieldTree → GeoArrowType → Type 0
ReadsOrInfersAlone f g = ReadsAlone f g × InfersAlone f g

-- why no kind is inferred from a tree
abbrev pub uninferred_text : Tree → Text
uninferred_text (struct fs) = cond (are_float64 fs) (codes "cannot infer: field count") (codes "cannot infer: fields are not all Float64")
uninferred_text (fixed_size_list n t b m size) = cond (is_float64 t) (codes "cannot infer: list size") (codes "cannot infer: inner field is not Float64")
uninferred_text _ = codes "cannot infer: data type"

-- the error with which a field without a GeoArrow name is refused: that of its metadata text, if that denotes none; `InvalidGeoArrow` for
-- its tree, if it denotes one and no kind is inferred from the tree, with the message that says why
abbrev pub UninferredAs : FieldTree → GeoArrowError → Type 0
UninferredAs f (InvalidGeoArrow s) = ((m : Metadata) × DenotesMetadata (extension_metadata f) m) × ((k : Kind) → ¬ InferredAs f.tree k) × (string_bytes s ≡ uninferred_text f.tree)
UninferredAs f (Arrow a) = ((m : Metadata) → ¬ DenotesMetadata (extension_metadata f) m) × TextRefusedAs (extension_metadata f) a
UninferredAs f _ = ⊥

-- out of memory; or the field is read as nothing, nothing is inferred, and this is its error
abbrev pub IsInferenceRefusal : FieldTree → GeoArrowError → Type 0
IsInferenceRefusal f e = IsGeoMemory e ⊎ (ReadsAsNone f × InfersNone f × ((HasGeoArrowName f × FieldRefusedAs f e) ⊎ (¬ HasGeoArrowName f × UninferredAs f e)))

-- what a field is read as or, without a GeoArrow name, what is inferred for it
abbrev pub IsInference : FieldTree → Result GeoArrowType GeoArrowError → Type 0
IsInference f r = MatchResult r (ReadsOrInfers f) (IsInferenceRefusal f)

-- a kind that can be inferred from its data type: points, well-known binary and text
abbrev pub IsInferable : Kind → Type 0
IsInferable (Native Point c d) = ⊤
IsInferable (Wkb w) = ⊤
IsInferable (Wkt w) = ⊤
IsInferable _ = ⊥

-- the field has neither of the two extension keys, and the tree that is written for the kind
abbrev pub IsBareColumn : FieldTree → Kind → Type 0
IsBareColumn f k = (extension_name f ≡ None) × (extension_metadata f ≡ None) × (f.tree ≡ layout k)
