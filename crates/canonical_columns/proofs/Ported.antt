-- The normal form of the column of a field beside the ported normal form of the field.
use Rattle.std.proofs.Common.{◌≡◌, [], ◌∷◌, false, Option, None, Some, option_map, option_and_then, refl, sym, ap, ◌∙◌, subst}
use Rattle.json.specs.Json.{Json, value}
use Rattle.json.specs.Lex.{lex, punctuate}
use Rattle.json.specs.Print.{print}
use Rattle.json.specs.Tree.{json_tokens}
use Rattle.serde_json.specs.Data.{Data, null}
use Rattle.serde_json.specs.Read.{of_json, read}
use Rattle.serde_json.specs.Written.{outline, compact_text}
use Rattle.serde_json.proofs.Texts.{print-outline}
use Rattle.value_tokens.specs.Values.{or_null}
use Rattle.arrow_values.specs.Tree.{Text, Tree, FieldTree}
use Rattle.arrow_values.specs.Texts.{extension_metadata, set_extension, text_at}
use Rattle.arrow_columns.specs.Column.{column_of}
use Rattle.arrow_columns.specs.Types.{TypeTree, known}
use Rattle.geoarrow_layout.specs.declared.names.ExtensionName.{ExtensionName}
use Rattle.geoarrow_layout.specs.declared.native_kinds.Kind.{Kind}
use Rattle.geoarrow_layout.specs.Kinds.{name_text, name_of, extension_of}
use Rattle.geoarrow_layout.specs.Layouts.{layout}
use Rattle.geoarrow_layout.specs.Shapes.{Accepts}
use Rattle.geoarrow_meta.specs.declared.edges.Edges.{Edges}
use Rattle.geoarrow_meta.specs.declared.crs.crs_type.CrsType.{CrsType}
use Rattle.geoarrow_meta.specs.declared.metadata.Metadata.{Metadata}
use Rattle.geoarrow_meta.specs.Read.{DenotesMetadata}
use Rattle.geoarrow_meta.specs.MetadataText.{metadata_data}
use Rattle.geoarrow_meta.specs.Written.{of_parts, meta_value, printed, normal, written, IsReadBack}
use Rattle.geoarrow_native.specs.Column.{ReadsAs}
use Rattle.geoarrow_schema.specs.Types.{kind_of, meta_of}
use Rattle.column_check.specs.OldNames.{current_name}
use Rattle.column_check.specs.Metadata.{Values, values_of, unless_planar, TextDenotes, TextHasCrs, HasMetadataFault}
use Rattle.column_check.specs.Types.{TypeAccepted, HasTypeFault}
use Rattle.column_check.specs.Finding.{IsOfKind, IsFinding}
use Rattle.column_check.specs.declared.data_type.TypeFault.{TypeFault}
use Rattle.column_check.specs.declared.metadata.MetadataFault.{MetadataFault}
use Rattle.column_check.specs.declared.metadata.ColumnMetadata.{ColumnMetadata}
use Rattle.column_check.specs.declared.finding.Geometry.{Geometry as GeometryColumn}
use Rattle.column_check.specs.declared.finding.Finding.{Finding}
use Rattle.column_check.specs.declared.finding.Finding.TheVariants.{Geometry, Invalid, Extension, Inferred, Plain}
use Rattle.canonical_columns.specs.Canonical.{metadata_object, normal_text, as_written, canonical_by, IsWritable}
use Rattle.canonical_columns.specs.Laws.{IsInOrder, AgreesWithField, IsSpelledOtherwise, AgreesInValue}
use Rattle.canonical_columns.proofs.Stays.{names_current, one_crs, IsOfThese, kind_alone}
use Rattle.canonical_columns.proofs.WrittenBack.{metadata_of, edges_stand, read_object, object_readable, object_data_of}
use Rattle.canonical_columns.proofs.Extensions.{metadata_set, other_set}
use Rattle.canonical_columns.proofs.ReadFrom.{crs_writable}

-- the values of a metadata
abbrev pub values_in : Metadata → Values
values_in m = record { crs = m.crs.value; crs_type = m.crs.crs_type; edges = m.edges }

-- ---- what is read of the field

-- the empty text is no JSON
empty_unread : read [] ≡ None
unfolding lex punctuate value
empty_unread = refl

no_empty_json : (d : Data) → read [] ≡ Some d → ⊥
no_empty_json d h = absurd (cc (empty_unread, h))

denotes : (t : Option Text) (m : Metadata) → DenotesMetadata t m → TextDenotes t (values_in m)
denotes None m h = ap values_in h
denotes (Some []) m (d, reads, is) = absurd (no_empty_json d reads)
denotes (Some (b ∷ s)) m (d, reads, is) =
    (d, reads, record { is_object = is.is_object; crs = is.crs; crs_type = is.crs_type; edges = edges_stand m.edges ∙ ap unless_planar is.edges })

pub of_kind : (f : FieldTree) (k : Kind) (m : Metadata) → ReadsAs f k m → IsOfKind (column_of f) k (values_in m)
unfolding ReadsAs
of_kind f k m reads = (extension_of k, ap (option_map current_name) reads.0.0 ∙ ap Some (names_current (extension_of k)), (refl, reads.0.1), denotes (extension_metadata f) m reads.1)

-- ---- the texts are the same

-- the object with the CRS as the value is spelled
pub in_order : (d : Data) (t : Option CrsType) (e : Option Edges) → metadata_object (metadata_of (Some (outline d)) t e) ≡ outline (written (Some d) t e)
in_order d None None = refl
in_order d None (Some e) = refl
in_order d (Some t) None = refl
in_order d (Some t) (Some e) = refl

pub without_crs : (t : Option CrsType) (e : Option Edges) → metadata_object (metadata_of None t e) ≡ outline (written None t e)
without_crs None None = refl
without_crs None (Some e) = refl
without_crs (Some t) None = refl
without_crs (Some t) (Some e) = refl

pub same_text : (j : Json) (d : Data) → j ≡ outline d → print (json_tokens j) ≡ compact_text d
same_text j d e = ap (λ x. print (json_tokens x)) e ∙ print-outline d

text_with : (j : Json) (d : Data) (t : Option CrsType) (e : Option Edges) → j ≡ outline d → normal_text (metadata_of (Some j) t e) ≡ printed (normal (of_parts (Some d) t e))
text_with j d t e is = ap Some (same_text (metadata_object (metadata_of (Some j) t e)) (written (Some d) t e) (ap (λ x. metadata_object (metadata_of (Some x) t e)) is ∙ in_order d t e))

same_texts : (crs : Option Json) (t : Option CrsType) (e : Option Edges) (v : Option Data) → option_and_then of_json crs ≡ v → IsInOrder crs
    → normal_text (metadata_of crs t e) ≡ printed (normal (of_parts v t e))
same_texts None t None v is ordered = ap (λ o. printed (normal (of_parts o t None))) is
same_texts None t (Some e) v is ordered =
    ap Some (same_text (metadata_object (metadata_of None t (Some e))) (written None t (Some e)) (without_crs t (Some e))) ∙ ap (λ o. printed (normal (of_parts o t (Some e)))) is
same_texts (Some j) t e v is (d, reads, spelled) = text_with j d t e spelled ∙ ap (λ o. printed (normal (of_parts o t e))) (sym reads ∙ is)

-- the same kind and values are written alike
pub written_alike : (f : FieldTree) (k : Kind) (m : Metadata) (h : GeometryColumn) → k ≡ h.kind → values_in m ≡ values_of h.metadata → IsInOrder h.metadata.crs
    → as_written h (column_of f) ≡ column_of (record f { tree = layout k; metadata = set_extension (name_of k) (printed (normal m)) f.metadata })
written_alike f k m h kind values ordered =
    let crs : option_and_then of_json h.metadata.crs ≡ m.crs.value = ap (λ v. v.crs) (sym values) in
    let text : normal_text h.metadata ≡ printed (normal m) =
    same_texts h.metadata.crs h.metadata.crs_type h.metadata.edges m.crs.value crs ordered ∙ ap (λ v. printed (normal (of_parts m.crs.value v.crs_type v.edges))) (sym values) in
    λ i. record (column_of f) { data_type = known (layout (sym kind i)); metadata = set_extension (name_of (sym kind i)) (text i) f.metadata }

-- ---- the texts are read as the same value

text_read : (m : ColumnMetadata) (d : Data) → IsWritable m.crs → of_json (or_null m.crs) ≡ Some d → read (print (json_tokens (metadata_object m))) ≡ Some (metadata_data d m.crs_type m.edges)
text_read m d h is = read_object (metadata_object m) _ (object_readable m h) refl ∙ object_data_of m d is

read_with : (j : Json) (d : Data) (t : Option CrsType) (e : Option Edges) → of_json j ≡ Some d → IsWritable (Some j) → IsReadBack (meta_value (of_parts (Some d) t e))
    → option_map read (normal_text (metadata_of (Some j) t e)) ≡ option_map read (printed (normal (of_parts (Some d) t e)))
read_with j d t e is h back = ap Some (text_read (metadata_of (Some j) t e) d h is ∙ sym back)

read_alike : (crs : Option Json) (t : Option CrsType) (e : Option Edges) (v : Option Data) → option_and_then of_json crs ≡ v → IsWritable crs → IsReadBack (meta_value (of_parts v t e))
    → option_map read (normal_text (metadata_of crs t e)) ≡ option_map read (printed (normal (of_parts v t e)))
read_alike None t None v is h back = ap (λ o. option_map read (printed (normal (of_parts o t None)))) is
read_alike None t (Some e) v is h back =
    ap Some (text_read (metadata_of None t (Some e)) null h refl ∙ sym (subst (λ o. IsReadBack (meta_value (of_parts o t (Some e)))) (sym is) back))
    ∙ ap (λ o. option_map read (printed (normal (of_parts o t (Some e))))) is
read_alike (Some j) t e v is (numbers, shallow, (d, reads)) back =
    let same : v ≡ Some d = sym is ∙ reads in
    read_with j d t e reads (numbers, shallow, (d, reads)) (subst (λ o. IsReadBack (meta_value (of_parts o t e))) same back)
    ∙ ap (λ o. option_map read (printed (normal (of_parts o t e)))) (sym same)

spelled_otherwise : (f : FieldTree) (k : Kind) (m : Metadata) (h : GeometryColumn) → k ≡ h.kind → values_in m ≡ values_of h.metadata → IsWritable h.metadata.crs → IsReadBack (meta_value m)
    → IsSpelledOtherwise (as_written h (column_of f)) (column_of (record f { tree = layout k; metadata = set_extension (name_of k) (printed (normal m)) f.metadata }))
spelled_otherwise f k m h kind values writable back =
    let text = normal_text h.metadata in
    let crs : option_and_then of_json h.metadata.crs ≡ m.crs.value = ap (λ v. v.crs) (sym values) in
    let here = subst (λ v. IsReadBack (meta_value (of_parts m.crs.value v.crs_type v.edges))) values back in
    let reads = read_alike h.metadata.crs h.metadata.crs_type h.metadata.edges m.crs.value crs writable here
    ∙ ap (λ v. option_map read (printed (normal (of_parts m.crs.value v.crs_type v.edges)))) (sym values) in (
      λ i. record (as_written h (column_of f)) { data_type = known (layout (sym kind i)) },
      λ key other. ap (λ x. text_at key (set_extension (name_of x) text f.metadata)) (sym kind) ∙ other_set (name_of k) key text (printed (normal m)) f.metadata other,
      ap (option_map read) (metadata_set (name_of h.kind) text f.metadata) ∙ reads ∙ ap (option_map read) (sym (metadata_set (name_of k) (printed (normal m)) f.metadata)),
    )

module _ (distinct : (a b : ExtensionName) → name_text a ≡ name_text b → a ≡ b)
    (one_kind : (name : Text) (t : Tree) (k l : Kind) → Accepts name t k → Accepts name t l → k ≡ l)
    (kind_or_fault : (n : ExtensionName) (t : TypeTree) (k : Kind) (f : TypeFault) → TypeAccepted n t k → ¬ HasTypeFault n t f)
    (one_values : (t : Option Text) (v w : Values) → TextDenotes t v → TextDenotes t w → v ≡ w)
    (values_or_fault : (t : Option Text) (f : MetadataFault) (v : Values) → HasMetadataFault t f → ¬ TextDenotes t v) where
  alone : (f : FieldTree) (k : Kind) (m : Metadata) (r : Finding) → ReadsAs f k m → IsFinding false (column_of f) r → IsOfThese k (values_in m) r
  alone f k m r reads is = kind_alone distinct one_kind kind_or_fault one_values values_or_fault (column_of f) false k (values_in m) r (of_kind f k m reads) is

  by_finding : (f : FieldTree) (k : Kind) (m : Metadata) (r : Finding) (crs : Option Json) → ReadsAs f k m → IsFinding false (column_of f) r → TextHasCrs (extension_metadata f) crs → IsInOrder crs
      → canonical_by r (column_of f) ≡ column_of (record f { tree = layout k; metadata = set_extension (name_of k) (printed (normal m)) f.metadata })
  by_finding f k m (Geometry h) crs reads is has ordered =
      let these = alone f k m (Geometry h) reads is in
      written_alike f k m h these.0 these.1 (subst IsInOrder (one_crs (extension_metadata f) crs h.metadata.crs has is.1) ordered)
  by_finding f k m (Invalid r) crs reads is has ordered = absurd (alone f k m (Invalid r) reads is)
  by_finding f k m Extension crs reads is has ordered = absurd (alone f k m Extension reads is)
  by_finding f k m (Inferred h) crs reads is has ordered = absurd (alone f k m (Inferred h) reads is)
  by_finding f k m Plain crs reads is has ordered = absurd (alone f k m Plain reads is)

  pub agrees_with_field : AgreesWithField
  agrees_with_field f n c crs (g, reads, same, back) (r, is, e) has ordered =
      e ∙ by_finding f (kind_of g) (meta_of g) r crs reads is has ordered ∙ ap column_of (sym same)

  value_by_finding : (f : FieldTree) (k : Kind) (m : Metadata) (r : Finding) → ReadsAs f k m → IsFinding false (column_of f) r → IsReadBack (meta_value m)
      → IsSpelledOtherwise (canonical_by r (column_of f)) (column_of (record f { tree = layout k; metadata = set_extension (name_of k) (printed (normal m)) f.metadata }))
  value_by_finding f k m (Geometry h) reads is back =
      let these = alone f k m (Geometry h) reads is in
      spelled_otherwise f k m h these.0 these.1 (crs_writable (extension_metadata f) (values_of h.metadata) h.metadata.crs is.0.3 is.1) back
  value_by_finding f k m (Invalid r) reads is back = absurd (alone f k m (Invalid r) reads is)
  value_by_finding f k m Extension reads is back = absurd (alone f k m Extension reads is)
  value_by_finding f k m (Inferred h) reads is back = absurd (alone f k m (Inferred h) reads is)
  value_by_finding f k m Plain reads is back = absurd (alone f k m Plain reads is)

  pub agrees_in_value : AgreesInValue
  agrees_in_value f n c (g, reads, same, _) (r, is, e) back =
      let there = value_by_finding f (kind_of g) (meta_of g) r reads is (back g reads) in
      subst (λ x. IsSpelledOtherwise x (column_of n)) (sym e) (subst (λ x. IsSpelledOtherwise (canonical_by r (column_of f)) (column_of x)) (sym same) there)
