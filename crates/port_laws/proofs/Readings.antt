-- What a field is read as, and what is inferred for it.
use Rattle.std.proofs.Common.{◌≡◌, ◌∙◌, refl, sym}
use Rattle.std.proofs.lemmas.Option.{same_Some}
use Rattle.arrow_values.specs.Tree.{FieldTree, Text, Tree}
use Rattle.arrow_values.specs.Texts.{extension_metadata}
use Rattle.geoarrow_layout.specs.declared.native_kinds.Kind.{Kind}
use Rattle.geoarrow_layout.specs.Kinds.{extension_of}
use Rattle.geoarrow_layout.specs.Shapes.{Accepts}
use Rattle.geoarrow_meta.specs.Laws.{text_denotes_one}
use Rattle.geoarrow_native.specs.Column.{ReadsAs}
use Rattle.geoarrow_schema.specs.declared.types.GeoArrowType.{GeoArrowType}
use Rattle.geoarrow_schema.specs.Types.{SameType, kind_of, meta_of}
use Rattle.geoarrow_schema.specs.Reads.{HasGeoArrowName, Reads}
use Rattle.geoarrow_schema.specs.Infers.{InfersAs, Infers}

-- under one name a data type is of one kind
abbrev pub IsOneKind : Type 0
IsOneKind = (name : Text) (t : Tree) (k l : Kind) → Accepts name t k → Accepts name t l → k ≡ l

-- what is read has a name, and what is inferred for has none
pub named : (f : FieldTree) (g : GeoArrowType) → Reads f g → HasGeoArrowName f
unfolding ReadsAs
named f g r = (extension_of (kind_of g), r.0.0)

pub unnamed : (f : FieldTree) (g : GeoArrowType) → Infers f g → ¬ HasGeoArrowName f
unfolding InfersAs
unnamed f g i = i.0

-- a field is read as one type
pub one_reading : IsOneKind → (f : FieldTree) (g h : GeoArrowType) → Reads f g → Reads f h → SameType g h
unfolding ReadsAs
one_reading one_kind f g h r s = (
  one_kind _ f.tree (kind_of g) (kind_of h) (refl, r.0.1) (same_Some _ _ (sym r.0.0 ∙ s.0.0), s.0.1),
  text_denotes_one (extension_metadata f) (meta_of g) (meta_of h) r.1 s.1,
)
