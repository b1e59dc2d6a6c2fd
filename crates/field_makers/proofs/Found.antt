-- Of a column that is made its geometries are said, and it is its own normal form.
use Rattle.std.proofs.Common.{◌≡◌, [], ◌∷◌, Bool, false, codes, Option, None, Some, option_map, refl, sym, ap, ◌∙◌, subst}
use Rattle.json.specs.Json.{Json}
use Rattle.json.specs.Find.{get}
use Rattle.json.specs.Tree.{json_tokens}
use Rattle.value_tokens.specs.Codes.{json_from, json_from-json_tokens}
use Rattle.arrow_values.specs.Tree.{Text, Tree}
use Rattle.arrow_values.specs.Texts.{name_key, metadata_key, text_at, set_extension}
use Rattle.arrow_columns.specs.Column.{name_on, metadata_on}
use Rattle.arrow_columns.specs.Types.{TypeTree}
use Rattle.geoarrow_layout.specs.declared.names.ExtensionName.{ExtensionName}
use Rattle.geoarrow_layout.specs.declared.names.ExtensionName.TheVariants as names
use Rattle.geoarrow_layout.specs.declared.native_kinds.NativeKind.TheVariants.{Point, LineString, Polygon, MultiPoint, MultiLineString, MultiPolygon, GeometryCollection}
use Rattle.geoarrow_layout.specs.declared.native_kinds.Kind.{Kind}
use Rattle.geoarrow_layout.specs.Kinds.{name_text, name_of, extension_of}
use Rattle.geoarrow_layout.specs.Layouts.{layout}
use Rattle.geoarrow_layout.specs.Shapes.{Accepts, Accepted}
use Rattle.column_check.specs.OldNames.{current_name}
use Rattle.column_check.specs.Metadata.{Values, values_of, unless_null, TextDenotes, TextHasCrs, HasMetadataFault}
use Rattle.column_check.specs.Types.{TypeAccepted, HasTypeFault}
use Rattle.column_check.specs.Finding.{HasName, HasOtherName, IsInvalidFor, IsFinding}
use Rattle.column_check.specs.declared.data_type.TypeFault.{TypeFault}
use Rattle.column_check.specs.declared.metadata.MetadataFault.{MetadataFault}
use Rattle.column_check.specs.declared.finding.Reasons.{Reasons}
use Rattle.column_check.specs.declared.finding.Reasons.TheVariants.{UnknownExtension, DataType, Metadata, DataTypeAndMetadata, Unread}
use Rattle.column_check.specs.declared.finding.Finding.{Finding}
use Rattle.column_check.specs.declared.finding.Finding.TheVariants.{Geometry, Invalid, Extension, Inferred, Plain}
use Rattle.canonical_columns.specs.Canonical.{normal_text}
use Rattle.field_makers.specs.declared.new_column.NewColumn.{NewColumn}
use Rattle.field_makers.specs.Made.{metadata_of, made, CanBeMade}
use Rattle.field_makers.specs.Laws.{geometry_of, MadeIsFound, MadeIsCanonical}
use Rattle.field_makers.proofs.ReadBack.{read_back}

-- ---- the extension texts of a column that had none

name_set : (name : Text) (text : Option Text) → text_at name_key (set_extension name text []) ≡ Some name
name_set name None = refl
name_set name (Some s) = refl

text_set : (name : Text) (text : Option Text) → text_at metadata_key (set_extension name text []) ≡ text
text_set name None = refl
text_set name (Some s) = refl

set_again : (name : Text) (text : Option Text) → set_extension name text [] ≡ set_extension name text (set_extension name text [])
set_again name None = refl
set_again name (Some s) = refl

pub name_made : (n : NewColumn) → name_on (made n) ≡ Some (name_of n.kind)
name_made n = name_set (name_of n.kind) (normal_text (metadata_of n))

pub text_made : (n : NewColumn) → metadata_on (made n) ≡ normal_text (metadata_of n)
text_made n = text_set (name_of n.kind) (normal_text (metadata_of n))

-- ---- names

-- each of the eleven names is read as itself
names_current : (n : ExtensionName) → current_name (name_text n) ≡ name_text n
names_current (names.Native Point) = refl
names_current (names.Native LineString) = refl
names_current (names.Native Polygon) = refl
names_current (names.Native MultiPoint) = refl
names_current (names.Native MultiLineString) = refl
names_current (names.Native MultiPolygon) = refl
names_current (names.Native GeometryCollection) = refl
names_current names.Geometry = refl
names_current names.Rect = refl
names_current names.Wkb = refl
names_current names.Wkt = refl

has_name : (n : NewColumn) → HasName (made n) (extension_of n.kind)
has_name n = ap (option_map current_name) (name_made n) ∙ ap Some (names_current (extension_of n.kind))

one_text : (o : Option Text) (s t : Text) → o ≡ Some s → o ≡ Some t → s ≡ t
one_text o s t h k = cc

not_both : (o : Option Text) (s : Text) → o ≡ Some s → o ≡ None → ⊥
not_both o s h k = absurd cc

one_json : (i j : Json) → json_tokens i ≡ json_tokens j → i ≡ j
one_json i j same = sym (json_from-json_tokens i) ∙ ap json_from same ∙ json_from-json_tokens j

one_crs : (t : Option Text) (a b : Option Json) → TextHasCrs t a → TextHasCrs t b → a ≡ b
one_crs None a b h k = h ∙ sym k
one_crs (Some []) a b h k = h ∙ sym k
one_crs (Some (x ∷ s)) a b (i, reads, is) (j, others, here) = is ∙ ap (λ v. unless_null (get (codes "crs") v)) (one_json i j (sym reads ∙ others)) ∙ sym here

-- ---- its geometries are said

module _ (layouts : (k : Kind) → Accepted k (layout k)) where
  said : (infer : Bool) (n : NewColumn) → CanBeMade n → IsFinding infer (made n) (Geometry (geometry_of n))
  said infer n can =
      let m = metadata_of n in
      let back = read_back n can in (
        (extension_of n.kind, has_name n, (refl, layouts n.kind), subst (λ t. TextDenotes t (values_of m)) (sym (text_made n)) back.0),
        subst (λ t. TextHasCrs t m.crs) (sym (text_made n)) back.1,
      )

  pub is_canonical : MadeIsCanonical
  is_canonical n can =
      let again = set_again (name_of n.kind) (normal_text (metadata_of n)) in
      (Geometry (geometry_of n), said false n can, λ i. record (made n) { metadata = again i })

  -- ---- and nothing else

  module _ (distinct : (a b : ExtensionName) → name_text a ≡ name_text b → a ≡ b)
      (one_kind : (name : Text) (t : Tree) (k l : Kind) → Accepts name t k → Accepts name t l → k ≡ l)
      (kind_or_fault : (n : ExtensionName) (t : TypeTree) (k : Kind) (f : TypeFault) → TypeAccepted n t k → ¬ HasTypeFault n t f)
      (one_values : (t : Option Text) (v w : Values) → TextDenotes t v → TextDenotes t w → v ≡ w)
      (values_or_fault : (t : Option Text) (f : MetadataFault) (v : Values) → HasMetadataFault t f → ¬ TextDenotes t v) where
    module _ (n : NewColumn) (can : CanBeMade n) where
      accepted : (e : ExtensionName) → HasName (made n) e → TypeAccepted e (made n).data_type n.kind
      accepted e named =
          let same = distinct (extension_of n.kind) e (one_text _ (name_text (extension_of n.kind)) (name_text e) (has_name n) named) in
          subst (λ x. TypeAccepted x (made n).data_type n.kind) same (refl, layouts n.kind)

      denotes : TextDenotes (metadata_on (made n)) (values_of (metadata_of n))
      denotes = (said false n can).0.3

      other_apart : (s : Text) → HasOtherName (made n) s → ⊥
      other_apart s h = h.1 (extension_of n.kind) (one_text _ (current_name s) (name_text (extension_of n.kind)) (ap (option_map current_name) h.0) (has_name n))

      invalid_apart : (r : Reasons) → IsInvalidFor (made n) r → ⊥
      invalid_apart UnknownExtension h = other_apart h.0 h.1
      invalid_apart (DataType t) h = kind_or_fault h.0 (made n).data_type n.kind t (accepted h.0 h.1) h.2
      invalid_apart (Metadata m) h = values_or_fault (metadata_on (made n)) m (values_of (metadata_of n)) h.3 denotes
      invalid_apart (DataTypeAndMetadata t m) h = kind_or_fault h.0 (made n).data_type n.kind t (accepted h.0 h.1) h.2
      invalid_apart Unread h = h

      only : (infer : Bool) (f : Finding) → IsFinding infer (made n) f → f ≡ Geometry (geometry_of n)
      only infer (Geometry g) is =
          let kind = one_kind (name_text is.0.0) (layout n.kind) g.kind n.kind is.0.2 (accepted is.0.0 is.0.1) in
          let values = one_values (metadata_on (made n)) (values_of g.metadata) (values_of (metadata_of n)) is.0.3 denotes in
          let crs = one_crs (metadata_on (made n)) g.metadata.crs (metadata_of n).crs is.1 (said false n can).1 in
          λ i. Geometry (record { kind = kind i; metadata = record { crs = crs i; crs_type = (values i).crs_type; edges = (values i).edges } })
      only infer (Invalid r) is = absurd (invalid_apart r is)
      only infer Extension is = absurd (other_apart is.0 is.1)
      only infer (Inferred g) is = absurd (not_both _ (name_of n.kind) (name_made n) is.1.0)
      only infer Plain is = absurd (not_both _ (name_of n.kind) (name_made n) is.0)

    pub is_found : MadeIsFound
    is_found infer n f can = (only n can infer f, λ same. subst (IsFinding infer (made n)) (sym same) (said infer n can))
