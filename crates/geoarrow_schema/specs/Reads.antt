-- What a field reads as, and what is written.
use Rattle.std.specs.Prelude.{◌≡◌, ◌⊎◌, Bool, Option, Some, None, Result, Ok, Err, MatchResult}
use Rattle.arrow_values.specs.Tree.{Text, Tree, FieldTree}
use Rattle.arrow_values.specs.Texts.{extension_name, extension_metadata}
use Rattle.arrow_values.specs.Errors.{IsGeoMemory, IsInvalidOf}
use Rattle.arrow_values.specs.declared.error.ArrowError.{ArrowError}
use Rattle.arrow_values.specs.declared.error.GeoArrowError.{GeoArrowError}
use Rattle.arrow_values.specs.declared.error.GeoArrowError.TheVariants.{Arrow, InvalidGeoArrow}
use Rattle.geoarrow_layout.specs.declared.names.ExtensionName.{ExtensionName}
use Rattle.geoarrow_layout.specs.declared.names.ExtensionName.TheVariants.{Wkb, Wkt}
use Rattle.geoarrow_layout.specs.declared.native_kinds.Width.{Width}
use Rattle.geoarrow_layout.specs.declared.native_kinds.Kind.{Kind}
use Rattle.geoarrow_layout.specs.Kinds.{name_text, name_of}
use Rattle.geoarrow_layout.specs.Shapes.{IsBytes, IsText}
use Rattle.geoarrow_layout.specs.Layouts.{layout}
use Rattle.geoarrow_meta.specs.declared.metadata.Metadata.{Metadata}
use Rattle.geoarrow_meta.specs.Written.{meta_value}
use Rattle.geoarrow_meta.specs.Read.{DenotesMetadata, TextRefusedAs}
use Rattle.serde_json.specs.Data.{Data}
use Rattle.geoarrow_native.specs.Column.{ReadsAs, IsLayoutRefusal, written_field}
use Rattle.geoarrow_schema.specs.declared.types.GeoArrowType.{GeoArrowType}
use Rattle.geoarrow_schema.specs.Types.{kind_of, meta_of}

-- the field has that extension name
abbrev pub HasName : FieldTree → ExtensionName → Type 0
HasName f n = extension_name f ≡ Some (name_text n)

-- the field has one of GeoArrow's extension names
abbrev pub HasGeoArrowName : FieldTree → Type 0
HasGeoArrowName f = (n : ExtensionName) × HasName f n

-- the field's name, tree and metadata text denote the type
abbrev pub Reads : FieldTree → GeoArrowType → Type 0
Reads f g = ReadsAs f (kind_of g) (meta_of g)

-- they denote no kind and metadata
abbrev pub ReadsAsNone : FieldTree → Type 0
ReadsAsNone f = (k : Kind) (m : Metadata) → ¬ ReadsAs f k m

-- they denote no other kind and metadata
abbrev pub ReadsAlone : FieldTree → GeoArrowType → Type 0
ReadsAlone f g = (k : Kind) (m : Metadata) → ReadsAs f k m → (k ≡ kind_of g) × (m ≡ meta_of g)

-- the field has the name of well-known binary and its tree is not bytes, or that of well-known text and its tree is not text
abbrev pub HasWrongStorage : FieldTree → Type 0
HasWrongStorage f = (HasName f Wkb × ((w : Width) → ¬ IsBytes w f.tree)) ⊎ (HasName f Wkt × ((w : Width) → ¬ IsText w f.tree))

-- the error is that of the field's metadata text or, if that denotes a metadata, that of the fault that its tree has under its extension name
abbrev pub ColumnRefusedAs : FieldTree → ArrowError → Type 0
ColumnRefusedAs f a = TextRefusedAs (extension_metadata f) a ⊎ (((m : Metadata) × DenotesMetadata (extension_metadata f) m) × (n : ExtensionName) × HasName f n × IsLayoutRefusal n f.tree a)

-- the error with which a field with a GeoArrow name is refused
abbrev pub FieldRefusedAs : FieldTree → GeoArrowError → Type 0
FieldRefusedAs f (InvalidGeoArrow s) = HasWrongStorage f
FieldRefusedAs f (Arrow a) = ¬ HasWrongStorage f × ColumnRefusedAs f a
FieldRefusedAs f _ = ⊥

-- the field has a GeoArrow name and is refused with this error: out of memory; or it is read as nothing, and that is its error
abbrev pub IsRefusedBy : FieldTree → GeoArrowError → Type 0
IsRefusedBy f e = HasGeoArrowName f × (IsGeoMemory e ⊎ (ReadsAsNone f × FieldRefusedAs f e))

-- what a field is read as: the type that it denotes; `None` if it has no GeoArrow name; or, if it has one, how it is refused
abbrev pub IsReading : FieldTree → Result (Option GeoArrowType) GeoArrowError → Type 0
IsReading f (Ok (Some g)) = Reads f g
IsReading f (Ok None) = ¬ HasGeoArrowName f
IsReading f (Err e) = IsRefusedBy f e

-- out of memory; or the field is read as nothing, and this is its error: without a GeoArrow name an `InvalidGeoArrow`
abbrev pub IsTypeRefusal : FieldTree → GeoArrowError → Type 0
IsTypeRefusal f e = IsGeoMemory e ⊎ (ReadsAsNone f × ((HasGeoArrowName f × FieldRefusedAs f e) ⊎ (¬ HasGeoArrowName f × (text : Text) × IsInvalidOf text e)))

-- what a field is read as by a call that must return a type
abbrev pub IsTypeReading : FieldTree → Result GeoArrowType GeoArrowError → Type 0
IsTypeReading f r = MatchResult r (Reads f) (IsTypeRefusal f)

-- what is written of a type: name, tree and metadata value
abbrev pub writes : GeoArrowType → Text × Tree × Option Data
writes g = (name_of (kind_of g), layout (kind_of g), meta_value (meta_of g))

-- the field of that name and nullability that is written for a type
abbrev pub field_of : Text → Bool → GeoArrowType → FieldTree
field_of name nullable g = written_field name nullable (kind_of g) (meta_of g)
