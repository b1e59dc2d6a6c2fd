-- What is said of a column, and what its field is read as.
use Rattle.std.proofs.Common.{◌≡◌, ◌||◌, [], ◌∷◌, Bool, true, false, cond, bytes_eq, codes, Option, None, Some, option_map, refl, sym, ap, ◌∙◌}
use Rattle.json.specs.Lex.{lex, punctuate}
use Rattle.json.specs.Json.{value}
use Rattle.serde_json.specs.Data.{Data}
use Rattle.serde_json.specs.Read.{read}
use Rattle.arrow_values.specs.Tree.{Text, FieldTree}
use Rattle.arrow_values.specs.Texts.{extension_name, extension_metadata}
use Rattle.arrow_columns.specs.Column.{column_of}
use Rattle.arrow_columns.specs.Types.{TypeTree, known}
use Rattle.geoarrow_layout.specs.declared.names.ExtensionName.{ExtensionName}
use Rattle.geoarrow_layout.specs.declared.names.ExtensionName.TheVariants as names
use Rattle.geoarrow_layout.specs.declared.native_kinds.NativeKind.TheVariants.{Point, LineString, Polygon, MultiPoint, MultiLineString, MultiPolygon, GeometryCollection}
use Rattle.geoarrow_layout.specs.declared.native_kinds.Kind.{Kind}
use Rattle.geoarrow_layout.specs.Kinds.{name_text, name_of, extension_of}
use Rattle.geoarrow_layout.specs.Inferred.{InferredAs}
use Rattle.geoarrow_meta.specs.declared.metadata.Metadata.{Metadata}
use Rattle.geoarrow_meta.specs.declared.edges.Edges.{Edges}
use Rattle.geoarrow_meta.specs.declared.edges.Edges.TheVariants.{Andoyer, Karney, Spherical, Thomas, Vincenty}
use Rattle.geoarrow_meta.specs.Read.{crs_type_data, edges_data, at_key, some_has_float, DenotesMetadata}
use Rattle.geoarrow_native.specs.Column.{ReadsAs}
use Rattle.geoarrow_schema.specs.Types.{kind_of, meta_of}
use Rattle.geoarrow_schema.specs.Reads.{HasGeoArrowName, ReadsAsNone}
use Rattle.geoarrow_schema.specs.Infers.{InfersAs, InfersNone}
use Rattle.column_check.specs.OldNames.{current_name, has_old_name}
use Rattle.column_check.specs.Metadata.{Values, values_of, is_planar, unless_planar, are_planar, TextDenotes, HasMetadataFault}
use Rattle.column_check.specs.Types.{TypeAccepted, HasTypeFault}
use Rattle.column_check.specs.GeometryNames.{may_be_taken}
use Rattle.column_check.specs.Finding.{HasName, IsOfKind, IsTakenFor, IsInvalidFor}
use Rattle.reading_laws.specs.Agrees.{values_in, is_odd_text, AgreesWithType, IsReadWhereWhole, HasNameUnlessOld, RefusesWithReading, PassesOverOldNames, AgreesWithInference, IsInferredWhereWhole}
use Rattle.column_check.specs.declared.data_type.TypeFault.{TypeFault}
use Rattle.column_check.specs.declared.metadata.MetadataFault.{MetadataFault}
use Rattle.column_check.specs.declared.finding.Reasons.{Reasons}
use Rattle.column_check.specs.declared.finding.Reasons.TheVariants.{UnknownExtension, DataType, Metadata as OfMetadata, DataTypeAndMetadata, Unread}
use Rattle.column_check.specs.declared.finding.Finding.{Finding}
use Rattle.column_check.specs.declared.finding.Finding.TheVariants.{Geometry, Invalid, Extension, Inferred, Plain}

-- the metadata of these values
abbrev metadata_with : Values → Metadata
metadata_with v = record { crs = record { value = v.crs; crs_type = v.crs_type }; edges = v.edges }

-- ---- names

-- a name of GeoArrow is no old one
names_stand : (n : ExtensionName) → has_old_name (Some (name_text n)) ≡ false
names_stand (names.Native Point) = refl
names_stand (names.Native LineString) = refl
names_stand (names.Native Polygon) = refl
names_stand (names.Native MultiPoint) = refl
names_stand (names.Native MultiLineString) = refl
names_stand (names.Native MultiPolygon) = refl
names_stand (names.Native GeometryCollection) = refl
names_stand names.Geometry = refl
names_stand names.Rect = refl
names_stand names.Wkb = refl
names_stand names.Wkt = refl

chosen : (one other : Bool) (x y s : Text) → (one || other) ≡ false → cond one x (cond other y s) ≡ s
chosen false false x y s h = refl
chosen false true x y s h = absurd cc
chosen true other x y s h = absurd cc

-- a name that is no old one is read as itself
as_itself : (o : Option Text) → has_old_name o ≡ false → option_map current_name o ≡ o
as_itself None h = refl
as_itself (Some s) h = ap Some (chosen (bytes_eq s (codes "ogc.wkb")) (bytes_eq s (codes "ogc.wkt")) (codes "geoarrow.wkb") (codes "geoarrow.wkt") s h)

not_both : (b : Bool) → b ≡ true → b ≡ false → ⊥
not_both b h k = absurd cc

refused : (b : Bool) → (b ≡ true → ⊥) → b ≡ false
refused true h = absurd (h refl)
refused false h = refl

-- ---- texts

-- edges of the format, or none, are not planar by name
not_planar : (e : Option Edges) → is_planar (option_map edges_data e) ≡ false
not_planar None = refl
not_planar (Some Andoyer) = refl
not_planar (Some Karney) = refl
not_planar (Some Spherical) = refl
not_planar (Some Thomas) = refl
not_planar (Some Vincenty) = refl

stays : (o : Option Data) → is_planar o ≡ false → unless_planar o ≡ o
stays o h = ap (λ b. cond b None o) h

edges_stand : (e : Option Edges) → unless_planar (option_map edges_data e) ≡ option_map edges_data e
edges_stand e = stays (option_map edges_data e) (not_planar e)

-- the empty text is no JSON
empty_unread : read [] ≡ None
unfolding lex punctuate value
empty_unread = refl

no_empty_json : (d : Data) → read [] ≡ Some d → ⊥
no_empty_json d h = absurd (cc (empty_unread, h))

-- a text that denotes a metadata is no odd one
no_odd_metadata : (t : Option Text) (m : Metadata) → is_odd_text t ≡ true → DenotesMetadata t m → ⊥
no_odd_metadata None m is h = absurd cc
no_odd_metadata (Some []) m is (d, reads, h) = no_empty_json d reads
no_odd_metadata (Some (b ∷ s)) m is (d, reads, h) =
    let planar : are_planar (Some d) ≡ true = ap are_planar (sym reads) ∙ is in
    not_both (is_planar (at_key (codes "edges") d)) planar (ap is_planar (sym h.edges) ∙ not_planar m.edges)

-- a text that is no odd one, and denotes values with whole numbers in the CRS, denotes each metadata of these values
stands : (t : Option Text) (v : Values) (m : Metadata) → TextDenotes t v → some_has_float v.crs ≡ false → is_odd_text t ≡ false → values_in m ≡ v → DenotesMetadata t m
stands None v m is whole even same = ap metadata_with (same ∙ is)
stands (Some []) v m is whole even same = absurd cc
stands (Some (b ∷ s)) v m (d, reads, is) whole even same = (
  d,
  reads,
  record {
    is_object = is.is_object;
    whole = ap some_has_float (sym is.crs) ∙ whole;
    crs = ap (λ w. w.crs) same ∙ is.crs;
    crs_type = ap (λ w. option_map crs_type_data w.crs_type) same ∙ is.crs_type;
    edges = ap (λ w. option_map edges_data w.edges) same ∙ is.edges ∙ stays (at_key (codes "edges") d) (ap are_planar (sym reads) ∙ even);
  },
)

-- the CRS of a metadata that a text denotes has whole numbers
is_whole : (t : Option Text) (m : Metadata) → DenotesMetadata t m → some_has_float m.crs.value ≡ false
is_whole None m h = ap (λ n. some_has_float n.crs.value) h
is_whole (Some s) m (d, reads, is) = ap some_has_float is.crs ∙ is.whole

-- a text that denotes a metadata denotes its values
denotes : (t : Option Text) (m : Metadata) → DenotesMetadata t m → TextDenotes t (values_in m)
denotes None m h = ap values_in h
denotes (Some []) m h = absurd (no_odd_metadata (Some []) m refl h)
denotes (Some (b ∷ s)) m (d, reads, is) =
    (d, reads, record { is_object = is.is_object; crs = is.crs; crs_type = is.crs_type; edges = sym (edges_stand m.edges) ∙ ap unless_planar is.edges })

-- a text that denotes a metadata is even
is_even : (t : Option Text) (m : Metadata) → DenotesMetadata t m → is_odd_text t ≡ false
is_even t m h = refused (is_odd_text t) (λ odd. no_odd_metadata t m odd h)

module _ (f : FieldTree) where
  -- a field with one of GeoArrow's names has no old one
  name_stands : (n : ExtensionName) → extension_name f ≡ Some (name_text n) → has_old_name (extension_name f) ≡ false
  name_stands n is = ap has_old_name is ∙ names_stand n

  pub passes_over_old_names : PassesOverOldNames f
  passes_over_old_names old (n, is) = not_both (has_old_name (extension_name f)) old (name_stands n is)

  -- a column of one of GeoArrow's names, old or new, has a field with that name, unless it is an old one
  named_so : (n : ExtensionName) → HasName (column_of f) n → has_old_name (extension_name f) ≡ false → extension_name f ≡ Some (name_text n)
  named_so n named new = sym (as_itself (extension_name f) new) ∙ named

  has_name : (n : ExtensionName) → HasName (column_of f) n → HasNameUnlessOld f
  has_name n named new = (n, named_so n named new)

  -- a field with one of GeoArrow's names is a column of that name
  column_named : (n : ExtensionName) → extension_name f ≡ Some (name_text n) → HasName (column_of f) n
  column_named n is = as_itself (extension_name f) (name_stands n is) ∙ is

  other_refuted : (s : Text) → extension_name f ≡ Some s → ((n : ExtensionName) → current_name s ≡ name_text n → ⊥) → ¬ HasGeoArrowName f
  other_refuted s named others (n, is) =
      let same : Some (current_name s) ≡ Some (name_text n) = ap (option_map current_name) (sym named) ∙ column_named n is in
      others n (cc same)

  -- a column with one of GeoArrow's names has an extension name
  unnamed_apart : (n : ExtensionName) → HasName (column_of f) n → extension_name f ≡ None → ⊥
  unnamed_apart n named none = let unread : option_map current_name (extension_name f) ≡ None = ap (option_map current_name) none in absurd (cc (named, unread))

  unnamed_refuted : extension_name f ≡ None → ¬ HasGeoArrowName f
  unnamed_refuted none (n, is) = absurd cc

  read_named : (k : Kind) (m : Metadata) → ReadsAs f k m → HasGeoArrowName f
  unfolding ReadsAs
  read_named k m reads = (extension_of k, reads.0.0)

  read_text : (k : Kind) (m : Metadata) → ReadsAs f k m → DenotesMetadata (extension_metadata f) m
  unfolding ReadsAs
  read_text k m reads = reads.1

  -- a field with an odd metadata text is read as nothing
  pub reads_no_odd_text : is_odd_text (extension_metadata f) ≡ true → ReadsAsNone f
  reads_no_odd_text odd k m reads = no_odd_metadata (extension_metadata f) m odd (read_text k m reads)

  reads_whole : (k : Kind) (v : Values) (m : Metadata) → IsOfKind (column_of f) k v → some_has_float v.crs ≡ false → has_old_name (extension_name f) ≡ false
      → is_odd_text (extension_metadata f) ≡ false → values_in m ≡ v → ReadsAs f k m
  unfolding ReadsAs
  reads_whole k v m (n, named, accepted, text) whole new even same = ((named_so n named new ∙ ap Some accepted.0, accepted.1), stands (extension_metadata f) v m text whole even same)

  pub whole_read : (infer : Bool) (r : Finding) → IsReadWhereWhole infer r f
  whole_read infer (Geometry g) = λ is whole new even m same. reads_whole g.kind (values_of g.metadata) m is.0 whole new even same
  whole_read infer r = tt

  module _ (kind_or_fault : (n : ExtensionName) (t : TypeTree) (k : Kind) (fault : TypeFault) → TypeAccepted n t k → ¬ HasTypeFault n t fault)
      (values_or_fault : (t : Option Text) (fault : MetadataFault) (v : Values) → HasMetadataFault t fault → ¬ TextDenotes t v) where
    -- a type with a fault is read as none
    type_refuted : (n : ExtensionName) (t : TypeFault) (k : Kind) (m : Metadata) → HasName (column_of f) n → HasTypeFault n (known f.tree) t → ReadsAs f k m → ⊥
    unfolding ReadsAs
    type_refuted n t k m named h reads =
        let here : HasName (column_of f) (extension_of k) = column_named (extension_of k) reads.0.0 in
        let same : name_text n ≡ name_of k = cc (named, here) in
        kind_or_fault n (known f.tree) k t (same, reads.0.1) h

    -- a metadata text with a fault is read as none
    text_refuted : (fault : MetadataFault) (k : Kind) (m : Metadata) → HasMetadataFault (extension_metadata f) fault → ReadsAs f k m → ⊥
    unfolding ReadsAs
    text_refuted fault k m h reads = values_or_fault (extension_metadata f) fault (values_in m) h (denotes (extension_metadata f) m reads.1)

    -- an invalid column under one of GeoArrow's names
    reasons_refute : (r : Reasons) (k : Kind) (m : Metadata) → IsInvalidFor (column_of f) r → ReadsAs f k m → ⊥
    reasons_refute UnknownExtension k m (s, (named, others), reserved) reads = other_refuted s named others (read_named k m reads)
    reasons_refute (DataType t) k m h reads = type_refuted h.0 t k m h.1 h.2 reads
    reasons_refute (OfMetadata x) k m h reads = text_refuted x k m h.3 reads
    reasons_refute (DataTypeAndMetadata t x) k m h reads = type_refuted h.0 t k m h.1 h.2 reads
    reasons_refute Unread k m h reads = h

    pub refuses : (infer : Bool) (r : Finding) → RefusesWithReading infer r f
    refuses infer (Geometry g) = λ is. has_name is.0.0 is.0.1
    refuses infer (Invalid UnknownExtension) = λ is. other_refuted is.0 is.1.0 is.1.1
    refuses infer (Invalid (DataType t)) = λ is. (has_name is.0 is.1, λ k m. reasons_refute (DataType t) k m is)
    refuses infer (Invalid (OfMetadata x)) = λ is. (has_name is.0 is.1, λ k m. reasons_refute (OfMetadata x) k m is)
    refuses infer (Invalid (DataTypeAndMetadata t x)) = λ is. (has_name is.0 is.1, λ k m. reasons_refute (DataTypeAndMetadata t x) k m is)
    refuses infer (Invalid Unread) = λ is. absurd is
    refuses infer Extension = λ is. other_refuted is.0 is.1.0 is.1.1
    refuses infer (Inferred g) = λ is. unnamed_refuted is.1.0
    refuses infer Plain = λ is. unnamed_refuted is.0

    module _ (one_values : (t : Option Text) (v w : Values) → TextDenotes t v → TextDenotes t w → v ≡ w)
        (one : (j k : Kind) (m n : Metadata) → ReadsAs f j m → ReadsAs f k n → (j ≡ k) × (m ≡ n)) where
      pub agrees : (infer : Bool) (r : Finding) → AgreesWithType infer r f
      agrees infer (Geometry g) is t reads =
          let m = meta_of t in
          let text = read_text (kind_of t) m reads in
          let values = one_values (extension_metadata f) (values_of g.metadata) (values_in m) is.0.3 (denotes (extension_metadata f) m text) in
          let whole = ap (λ v. some_has_float v.crs) values ∙ is_whole (extension_metadata f) m text in
          let named = read_named (kind_of t) m reads in
          let here = reads_whole g.kind (values_of g.metadata) m is.0 whole (name_stands named.0 named.1) (is_even (extension_metadata f) m text) (sym values) in
          ((one g.kind (kind_of t) m m here reads).0, values)
      agrees infer (Invalid r) is t reads = absurd (reasons_refute r (kind_of t) (meta_of t) is reads)
      agrees infer Extension (s, (named, others), free) t reads = absurd (other_refuted s named others (read_named (kind_of t) (meta_of t) reads))
      agrees infer (Inferred g) is t reads = absurd (unnamed_refuted is.1.0 (read_named (kind_of t) (meta_of t) reads))
      agrees infer Plain is t reads = absurd (unnamed_refuted is.0 (read_named (kind_of t) (meta_of t) reads))

-- ---- what is inferred

module _ (f : FieldTree) where
  infers_whole : (k : Kind) (v : Values) (m : Metadata) → IsTakenFor (column_of f) k v → some_has_float v.crs ≡ false → is_odd_text (extension_metadata f) ≡ false → values_in m ≡ v
      → InfersAs f k m
  unfolding InfersAs
  infers_whole k v m (none, inferred, named, text) whole even same = (unnamed_refuted f none, stands (extension_metadata f) v m text whole even same, inferred)

  -- nothing is inferred for a field with an odd metadata text
  pub infers_no_odd_text : is_odd_text (extension_metadata f) ≡ true → InfersNone f
  unfolding InfersAs
  infers_no_odd_text odd k m (unnamed, text, inferred) = no_odd_metadata (extension_metadata f) m odd text

  takes : (k : Kind) (m : Metadata) → extension_name f ≡ None → may_be_taken f.name k ≡ true → InfersAs f k m → IsTakenFor (column_of f) k (values_in m)
  unfolding InfersAs
  takes k m none allowed (unnamed, text, inferred) = (none, inferred, allowed, denotes (extension_metadata f) m text)

  -- with inference, the finding of a field without an extension name is what is inferred for it, as its name allows
  pub agrees_with_inference : ((t : Option Text) (v w : Values) → TextDenotes t v → TextDenotes t w → v ≡ w)
      → ((j k : Kind) → InferredAs f.tree j → InferredAs f.tree k → j ≡ k) → (r : Finding) → AgreesWithInference r f
  agrees_with_inference one_values one (Geometry g) is none t allowed infers = absurd (unnamed_apart f is.0.0 is.0.1 none)
  agrees_with_inference one_values one (Invalid UnknownExtension) is none t allowed infers = absurd (cc (is.1.0, none))
  agrees_with_inference one_values one (Invalid (DataType x)) is none t allowed infers = absurd (unnamed_apart f is.0 is.1 none)
  agrees_with_inference one_values one (Invalid (OfMetadata x)) is none t allowed infers = absurd (unnamed_apart f is.0 is.1 none)
  agrees_with_inference one_values one (Invalid (DataTypeAndMetadata x y)) is none t allowed infers = absurd (unnamed_apart f is.0 is.1 none)
  agrees_with_inference one_values one (Invalid Unread) is none t allowed infers = absurd is
  agrees_with_inference one_values one Extension is none t allowed infers = absurd (cc (is.1.0, none))
  agrees_with_inference one_values one (Inferred g) is none t allowed infers =
      let taken = takes (kind_of t) (meta_of t) none allowed infers in
      (one g.kind (kind_of t) is.1.1 taken.1, one_values (extension_metadata f) (values_of g.metadata) (values_in (meta_of t)) is.1.3 taken.3)
  agrees_with_inference one_values one Plain is none t allowed infers = absurd (is.1 refl (kind_of t) (values_in (meta_of t)) (takes (kind_of t) (meta_of t) none allowed infers))

  pub whole_inferred : (infer : Bool) (r : Finding) → IsInferredWhereWhole infer r f
  whole_inferred infer (Inferred g) = λ is whole even m same. infers_whole g.kind (values_of g.metadata) m is.1 whole even same
  whole_inferred infer r = tt
