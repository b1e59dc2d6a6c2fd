-- A field has one canonical field, which is its own.
use Rattle.std.proofs.Common.{◌≡◌, ◌∙◌, inl, inr, Option, refl, sym, ap, ap₂, arith}
use Rattle.serde_json.specs.Data.{Data}
use Rattle.arrow_values.specs.Tree.{FieldTree, Metadata as Texts}
use Rattle.arrow_values.specs.Errors.{IsGeoMemory}
use Rattle.arrow_values.specs.declared.error.GeoArrowError.{GeoArrowError}
use Rattle.geoarrow_layout.specs.Kinds.{name_of}
use Rattle.geoarrow_layout.specs.Layouts.{layout}
use Rattle.geoarrow_meta.specs.declared.edges.Edges.{Edges}
use Rattle.geoarrow_meta.specs.declared.crs.crs_type.CrsType.{CrsType}
use Rattle.geoarrow_meta.specs.declared.metadata.Metadata.{Metadata}
use Rattle.geoarrow_meta.specs.Written.{NestsWithin, normal, of_parts, printed, type_unless}
use Rattle.geoarrow_native.specs.Column.{ReadsAs}
use Rattle.geoarrow_schema.specs.declared.types.GeoArrowType.{GeoArrowType}
use Rattle.geoarrow_schema.specs.declared.types.GeoArrowType.TheVariants as types
use Rattle.geoarrow_schema.specs.Types.{kind_of, meta_of, with_metadata}
use Rattle.geoarrow_schema.specs.Reads.{Reads, IsRefusedBy}
use Rattle.geoarrow_schema.specs.Normal.{IsCanonical, ReadsShallow, rewritten}
use Rattle.port_laws.specs.Canonical.{IsAnswer, IsShallow, HasOneCanonical, IsItsOwnCanonical, IsAnsweredAgain}
use Rattle.port_laws.proofs.Texts.{set_twice}
use Rattle.port_laws.proofs.Readings.{IsOneKind, named, one_reading}

-- the normal form is its own
normal_type : (v : Option Data) (t : Option CrsType) (e : Option Edges) → type_unless v (type_unless v t e) e ≡ type_unless v t e
normal_type v t e = grind arith

normal_once : (m : Metadata) → normal (normal m) ≡ normal m
normal_once m = ap (λ t. of_parts m.crs.value t m.edges) (normal_type m.crs.value m.crs.crs_type m.edges)

-- a type with another metadata is of the same kind, and that is its metadata
with_metadata_is : (g : GeoArrowType) (m : Metadata) → (kind_of (with_metadata g m) ≡ kind_of g) × (meta_of (with_metadata g m) ≡ m)
with_metadata_is (types.Point t) m = (refl, refl)
with_metadata_is _ m = (refl, refl)

module _ (one_kind : IsOneKind) where
  pub one_canonical : HasOneCanonical
  one_canonical f n p (g, r, x, back) (h, s, y, also) =
      let same = one_reading one_kind f g h r s in
      x ∙ ap₂ (λ k m. rewritten f k (normal m)) same.0 same.1 ∙ sym y

  -- what is answered for a shallow field that is read as g
  module _ (f n : FieldTree) (g : GeoArrowType) (r : Reads f g) (nests : NestsWithin 100 (meta_of g).crs.value) (answer : IsAnswer f n) where
    abbrev form : GeoArrowType
    form = with_metadata g (normal (meta_of g))

    of_kind : kind_of form ≡ kind_of g
    of_kind = (with_metadata_is g (normal (meta_of g))).0

    of_metadata : meta_of form ≡ normal (meta_of g)
    of_metadata = (with_metadata_is g (normal (meta_of g))).1

    reads : ReadsAs n (kind_of g) (normal (meta_of g))
    reads = answer.1 g r nests

    reads_form : Reads n form
    reads_form = rw (of_kind, of_metadata) reads

    by_equation : IsCanonical f n → n ≡ rewritten f (kind_of g) (normal (meta_of g))
    by_equation (h, s, made, normally) = let type = one_reading one_kind f h g s r in rw (type.0, type.1) at made

    written_again : rewritten n (kind_of g) (normal (meta_of g)) ≡ n
    written_again =
        let texts = set_twice (name_of (kind_of g)) (printed (normal (meta_of g))) f.metadata in
        rw (by_equation answer.0) (ap (λ (l : Texts). record f { tree = layout (kind_of g); metadata = l }) texts)

    own : IsCanonical n n
    own =
        let once = normal_once (meta_of g) in
        let equation = sym written_again ∙ ap₂ (λ k l. rewritten n k l) (sym of_kind) (sym once ∙ ap normal (sym of_metadata)) in
        (form, reads_form, equation, λ _. rw (of_kind, of_metadata, once) reads)

    own_reads : (h : GeoArrowType) → Reads n h → ReadsShallow n h
    own_reads h s nested =
        let type = one_reading one_kind n h form s reads_form in
        rw (type.0, type.1, of_kind, of_metadata, normal_once (meta_of g)) reads

    own_shallow : IsShallow n
    own_shallow = (form, reads_form, rw of_metadata nests)

    only_memory : (e : GeoArrowError) → IsRefusedBy n e → IsGeoMemory e
    only_memory e (has_name, inl memory) = memory
    only_memory e (has_name, inr (none, refused)) = absurd (none (kind_of form) (meta_of form) reads_form)

  pub own_canonical : IsItsOwnCanonical
  own_canonical f n (g, r, nests) answer =
      let is = own f n g r nests answer in
      ((is, own_reads f n g r nests answer), λ p also. one_canonical n p n also is)

  pub answered_again : IsAnsweredAgain
  answered_again f n (g, r, nests) answer =
      (own_shallow f n g r nests answer, named n _ (reads_form f n g r nests answer), only_memory f n g r nests answer)
