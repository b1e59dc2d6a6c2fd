-- The normal form of a type, and of a field.
use Rattle.arrow_values.specs.Tree.{FieldTree}
use Rattle.arrow_values.specs.Texts.{set_extension, SetsExtension}
use Rattle.geoarrow_layout.specs.declared.native_kinds.Kind.{Kind}
use Rattle.geoarrow_layout.specs.Kinds.{name_of}
use Rattle.geoarrow_layout.specs.Layouts.{layout}
use Rattle.geoarrow_meta.specs.declared.metadata.Metadata.{Metadata}
use Rattle.geoarrow_meta.specs.Written.{meta_value, printed, normal, IsReadBack, NestsWithin}
use Rattle.geoarrow_native.specs.Column.{ReadsAs}
use Rattle.geoarrow_schema.specs.declared.types.GeoArrowType.{GeoArrowType}
use Rattle.geoarrow_schema.specs.Types.{kind_of, meta_of}
use Rattle.geoarrow_schema.specs.Reads.{Reads}
use Rattle.std.specs.Prelude.{◌≡◌}

-- the normal form: the kind, and the metadata in normal form
abbrev pub normal_of : GeoArrowType → Kind × Metadata
normal_of g = (kind_of g, normal (meta_of g))

-- the field with the layout of a kind and its extension keys, otherwise unchanged
abbrev pub rewritten : FieldTree → Kind → Metadata → FieldTree
rewritten f k m = record f { tree = layout k; metadata = set_extension (name_of k) (printed m) f.metadata }

-- n has the two extension keys of g, and at every other key what f has
abbrev pub HasKeysOf : GeoArrowType → FieldTree → FieldTree → Type 0
HasKeysOf g f n = SetsExtension (name_of (kind_of g)) (printed (meta_of g)) f.metadata n.metadata

-- n reads as the normal form of g, if the CRS value of g is nested at most 100 levels
abbrev pub ReadsShallow : FieldTree → GeoArrowType → Type 0
ReadsShallow n g = NestsWithin 100 (meta_of g).crs.value → ReadsAs n (kind_of g) (normal (meta_of g))

-- n reads as a kind and the normal form of a metadata, if `serde_json` reads what it printed of it
abbrev pub ReadsNormally : FieldTree → Kind → Metadata → Type 0
ReadsNormally n k m = IsReadBack (meta_value (normal m)) → ReadsAs n k (normal m)

-- n is the field with what is written for the normal form of the type that it reads as, and n reads as that normal form
abbrev pub IsCanonical : FieldTree → FieldTree → Type 0
IsCanonical f n = (g : GeoArrowType) × Reads f g × (n ≡ rewritten f (kind_of g) (normal (meta_of g))) × ReadsNormally n (kind_of g) (meta_of g)
