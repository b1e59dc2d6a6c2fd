-- Of the normal form of a column the same is said, and it is its own.
use Rattle.std.proofs.Common.{◌≡◌, [], ◌∷◌, Bool, false, Option, None, Some, option_map, codes, refl, sym, ap, ◌∙◌, subst}
use Rattle.json.specs.Json as json
use Rattle.json.specs.Json.{Json}
use Rattle.json.specs.Find.{get}
use Rattle.serde_json.specs.Data.{Data, null, boolean, number, string, array, object}
use Rattle.arrow_values.specs.Tree.{Text, Tree}
use Rattle.arrow_values.specs.Texts.{set_extension}
use Rattle.arrow_columns.specs.Column.{name_on, metadata_on}
use Rattle.arrow_columns.specs.Types.{TypeTree, ColumnTree}
use Rattle.arrow_columns.specs.Outlines.{outline}
use Rattle.arrow_columns.specs.declared.outline.Outline.TheVariants.{Layout}
use Rattle.geoarrow_layout.specs.declared.names.ExtensionName.{ExtensionName}
use Rattle.geoarrow_layout.specs.declared.names.ExtensionName.TheVariants as names
use Rattle.geoarrow_layout.specs.declared.native_kinds.NativeKind.TheVariants.{Point, LineString, Polygon, MultiPoint, MultiLineString, MultiPolygon, GeometryCollection}
use Rattle.geoarrow_layout.specs.declared.native_kinds.Kind.{Kind}
use Rattle.geoarrow_layout.specs.Kinds.{name_text, name_of, extension_of}
use Rattle.geoarrow_layout.specs.Layouts.{layout}
use Rattle.geoarrow_layout.specs.Shapes.{Accepts, Accepted}
use Rattle.geoarrow_meta.specs.declared.edges.Edges.{Edges}
use Rattle.geoarrow_meta.specs.declared.crs.crs_type.CrsType.{CrsType}
use Rattle.geoarrow_meta.specs.Read.{present}
use Rattle.column_check.specs.OldNames.{current_name, name_read}
use Rattle.column_check.specs.Metadata.{Values, values_of, unless_null, TextDenotes, TextHasCrs, HasMetadataFault}
use Rattle.column_check.specs.Types.{TypeAccepted, HasTypeFault}
use Rattle.column_check.specs.Finding.{HasName, HasOtherName, IsOfKind, IsInvalidFor, IsFinding}
use Rattle.column_check.specs.Unique.{SameGeometry}
use Rattle.column_check.specs.declared.data_type.TypeFault.{TypeFault}
use Rattle.column_check.specs.declared.metadata.MetadataFault.{MetadataFault}
use Rattle.column_check.specs.declared.metadata.ColumnMetadata.{ColumnMetadata}
use Rattle.column_check.specs.declared.finding.Reasons.{Reasons}
use Rattle.column_check.specs.declared.finding.Reasons.TheVariants.{UnknownExtension, DataType, Metadata, DataTypeAndMetadata, Unread}
use Rattle.column_check.specs.declared.finding.Geometry.{Geometry as GeometryColumn}
use Rattle.column_check.specs.declared.finding.Finding.{Finding}
use Rattle.column_check.specs.declared.finding.Finding.TheVariants.{Geometry, Invalid, Extension, Inferred, Plain}
use Rattle.canonical_columns.specs.Canonical.{normal_text, as_written, canonical_by, IsCanonical}
use Rattle.canonical_columns.specs.Laws.{normal_values, normal_finding, HasOneCanonical, IsItsOwnCanonical, CanonicalIsFoundAlike}
use Rattle.canonical_columns.proofs.Extensions.{name_set, metadata_set, set_again}
use Rattle.canonical_columns.proofs.ReadFrom.{one_json, crs_writable}
use Rattle.canonical_columns.proofs.WrittenBack.{metadata_of, IsPresent, written_back}

-- ---- the CRS of a metadata text is not null

pub present_again : (o : Option Data) → present (present o) ≡ present o
present_again None = refl
present_again (Some null) = refl
present_again (Some (boolean b)) = refl
present_again (Some (number n)) = refl
present_again (Some (string s)) = refl
present_again (Some (array ds)) = refl
present_again (Some (object ms)) = refl

pub unless_again : (o : Option Json) → unless_null (unless_null o) ≡ unless_null o
unless_again None = refl
unless_again (Some json.null) = refl
unless_again (Some (json.boolean b)) = refl
unless_again (Some (json.number s)) = refl
unless_again (Some (json.string s)) = refl
unless_again (Some (json.array js)) = refl
unless_again (Some (json.object ms)) = refl

pub crs_present : (t : Option Text) (m : ColumnMetadata) → TextDenotes t (values_of m) → TextHasCrs t m.crs → IsPresent m.crs
crs_present None m denotes none = subst IsPresent (sym none) (refl, refl)
crs_present (Some []) m denotes none = subst IsPresent (sym none) (refl, refl)
crs_present (Some (b ∷ s)) m (d, reads, is) (j, spelled, same) =
    (ap unless_null same ∙ unless_again (get (codes "crs") j) ∙ sym same, ap present is.crs ∙ present_again _ ∙ sym is.crs)

pub one_crs : (t : Option Text) (a b : Option Json) → TextHasCrs t a → TextHasCrs t b → a ≡ b
one_crs None a b h k = h ∙ sym k
one_crs (Some []) a b h k = h ∙ sym k
one_crs (Some (x ∷ s)) a b (i, reads, is) (j, others, here) = is ∙ ap (λ v. unless_null (get (codes "crs") v)) (one_json i j (sym reads ∙ others)) ∙ sym here

-- ---- names

-- each of the eleven names is read as itself
pub names_current : (n : ExtensionName) → current_name (name_text n) ≡ name_text n
names_current (names.Native Point) = refl
names_current (names.Native LineString) = refl
names_current (names.Native Polygon) = refl
names_current (names.Native MultiPoint) = refl
names_current (names.Native MultiLineString) = refl
names_current (names.Native MultiPolygon) = refl
names_current (names.Native GeometryCollection) = refl
names_current names.Geometry = refl
names_current names.Rect = refl
names_current names.Wkb = refl
names_current names.Wkt = refl

one_text : (o : Option Text) (s t : Text) → o ≡ Some s → o ≡ Some t → s ≡ t
one_text o s t h k = cc

not_both : (o : Option Text) (s : Text) → o ≡ Some s → o ≡ None → ⊥
not_both o s h k = absurd cc

-- ---- as geometries are written

-- the text depends on no CRS type that is lost
text_again : (crs : Option Json) (t : Option CrsType) (e : Option Edges) → normal_text (normal_values (metadata_of crs t e)) ≡ normal_text (metadata_of crs t e)
text_again None t None = refl
text_again None t (Some e) = refl
text_again (Some j) t e = refl

written_again : (g : GeometryColumn) (c : ColumnTree) → canonical_by (normal_finding (Geometry g)) (as_written g c) ≡ as_written g c
written_again g c =
    let same = ap (λ text. set_extension (name_of g.kind) text (as_written g c).metadata) (text_again g.metadata.crs g.metadata.crs_type g.metadata.edges)
    ∙ set_again (name_of g.kind) (normal_text g.metadata) c.metadata in
    λ i. record (as_written g c) { metadata = same i }

pub same_written : (g h : GeometryColumn) (c : ColumnTree) → SameGeometry g h → as_written g c ≡ as_written h c
same_written g h c (kind, values, crs) = λ i. as_written (record { kind = kind i; metadata = metadata_of (crs i) ((values i).crs_type) ((values i).edges) }) c

stays : ((k : Kind) → Accepted k (layout k)) → (infer : Bool) (c : ColumnTree) (g : GeometryColumn) → IsFinding infer c (Geometry g) → IsFinding infer (as_written g c) (normal_finding (Geometry g))
stays read_back infer c g is =
    let m = g.metadata in
    let writable = crs_writable (metadata_on c) (values_of m) m.crs is.0.3 is.1 in
    let back = written_back m.crs m.crs_type m.edges writable (crs_present (metadata_on c) m is.0.3 is.1) in
    let text = metadata_set (name_of g.kind) (normal_text m) c.metadata in
    let named : HasName (as_written g c) (extension_of g.kind) = ap (option_map current_name) (name_set (name_of g.kind) (normal_text m) c.metadata) ∙ ap Some (names_current (extension_of g.kind)) in (
      (extension_of g.kind, named, (refl, read_back g.kind), subst (λ t. TextDenotes t (values_of (normal_values m))) (sym text) back.0),
      subst (λ t. TextHasCrs t m.crs) (sym text) back.1,
    )

own_by : ((k : Kind) → Accepted k (layout k)) → (c : ColumnTree) (f : Finding) → IsFinding false c f → IsCanonical (canonical_by f c) (canonical_by f c)
own_by read_back c (Geometry g) is = (normal_finding (Geometry g), stays read_back false c g is, sym (written_again g c))
own_by read_back c (Invalid r) is = (Invalid r, is, refl)
own_by read_back c Extension is = (Extension, is, refl)
own_by read_back c (Inferred g) is = (Inferred g, is, refl)
own_by read_back c Plain is = (Plain, is, refl)

pub its_own : ((k : Kind) → Accepted k (layout k)) → IsItsOwnCanonical
its_own read_back c n (f, is, same) = subst (λ x. IsCanonical x x) (sym same) (own_by read_back c f is)

-- ---- geometries are said of a column alone

-- the finding is of geometries of this kind and these values
abbrev pub IsOfThese : Kind → Values → Finding → Type 0
IsOfThese k v (Geometry h) = (k ≡ h.kind) × (v ≡ values_of h.metadata)
IsOfThese k v (Invalid r) = ⊥
IsOfThese k v Extension = ⊥
IsOfThese k v (Inferred h) = ⊥
IsOfThese k v Plain = ⊥

-- the finding is of these geometries
abbrev pub IsGeometryAs : GeometryColumn → Finding → Type 0
IsGeometryAs g (Geometry h) = SameGeometry g h
IsGeometryAs g (Invalid r) = ⊥
IsGeometryAs g Extension = ⊥
IsGeometryAs g (Inferred h) = ⊥
IsGeometryAs g Plain = ⊥

module _ (distinct : (a b : ExtensionName) → name_text a ≡ name_text b → a ≡ b)
    (one_kind : (name : Text) (t : Tree) (k l : Kind) → Accepts name t k → Accepts name t l → k ≡ l)
    (kind_or_fault : (n : ExtensionName) (t : TypeTree) (k : Kind) (f : TypeFault) → TypeAccepted n t k → ¬ HasTypeFault n t f)
    (one_values : (t : Option Text) (v w : Values) → TextDenotes t v → TextDenotes t w → v ≡ w)
    (values_or_fault : (t : Option Text) (f : MetadataFault) (v : Values) → HasMetadataFault t f → ¬ TextDenotes t v) where
  module _ (c : ColumnTree) where
    one_name : (m n : ExtensionName) → HasName c m → HasName c n → m ≡ n
    one_name m n h k = distinct m n (one_text _ (name_text m) (name_text n) h k)

    other_apart : (s : Text) (n : ExtensionName) → HasOtherName c s → HasName c n → ⊥
    other_apart s n h named = h.1 n (one_text _ (current_name s) (name_text n) (ap (option_map current_name) h.0) named)

    unnamed_apart : (n : ExtensionName) → HasName c n → name_on c ≡ None → ⊥
    unnamed_apart n named none = not_both (name_read c) (name_text n) named (ap (option_map current_name) none)

    types_apart : (m n : ExtensionName) (k : Kind) (f : TypeFault) → HasName c m → HasName c n → TypeAccepted m c.data_type k → HasTypeFault n c.data_type f → ⊥
    types_apart m n k f h g accepted faulty = kind_or_fault n c.data_type k f (subst (λ x. TypeAccepted x c.data_type k) (one_name m n h g) accepted) faulty

    invalid_apart : (k : Kind) (v : Values) (r : Reasons) → IsOfKind c k v → IsInvalidFor c r → ⊥
    invalid_apart k v UnknownExtension is h = other_apart h.0 is.0 h.1 is.1
    invalid_apart k v (DataType t) is h = types_apart is.0 h.0 k t is.1 h.1 is.2 h.2
    invalid_apart k v (Metadata m) is h = values_or_fault (metadata_on c) m v h.3 is.3
    invalid_apart k v (DataTypeAndMetadata t m) is h = types_apart is.0 h.0 k t is.1 h.1 is.2 h.2
    invalid_apart k v Unread is h = h

    -- of a column of that kind and these values nothing else is said
    pub kind_alone : (also : Bool) (k : Kind) (v : Values) (f : Finding) → IsOfKind c k v → IsFinding also c f → IsOfThese k v f
    kind_alone also k v (Geometry h) is here =
        let accepted = subst (λ x. TypeAccepted x c.data_type k) (one_name is.0 here.0.0 is.1 here.0.1) is.2 in
        (one_kind (name_text here.0.0) (outline Layout c.data_type) k h.kind accepted here.0.2, one_values (metadata_on c) v (values_of h.metadata) is.3 here.0.3)
    kind_alone also k v (Invalid r) is here = invalid_apart k v r is here
    kind_alone also k v Extension is here = other_apart here.0 is.0 here.1 is.1
    kind_alone also k v (Inferred h) is here = unnamed_apart is.0 is.1 here.1.0
    kind_alone also k v Plain is here = unnamed_apart is.0 is.1 here.0

    pub geometry_alone : (infer also : Bool) (g : GeometryColumn) (f : Finding) → IsFinding infer c (Geometry g) → IsFinding also c f → IsGeometryAs g f
    geometry_alone infer also g (Geometry h) is k =
        let alone = kind_alone also g.kind (values_of g.metadata) (Geometry h) is.0 k in
        (alone.0, alone.1, one_crs (metadata_on c) g.metadata.crs h.metadata.crs is.1 k.1)
    geometry_alone infer also g (Invalid r) is k = kind_alone also g.kind (values_of g.metadata) (Invalid r) is.0 k
    geometry_alone infer also g Extension is k = kind_alone also g.kind (values_of g.metadata) Extension is.0 k
    geometry_alone infer also g (Inferred h) is k = kind_alone also g.kind (values_of g.metadata) (Inferred h) is.0 k
    geometry_alone infer also g Plain is k = kind_alone also g.kind (values_of g.metadata) Plain is.0 k

    same_canonical : (f h : Finding) → IsFinding false c f → IsFinding false c h → canonical_by f c ≡ canonical_by h c
    same_canonical (Geometry g) (Geometry h) is k = same_written g h c (geometry_alone false false g (Geometry h) is k)
    same_canonical (Geometry g) h is k = absurd (geometry_alone false false g h is k)
    same_canonical f (Geometry h) is k = absurd (geometry_alone false false h f k is)
    same_canonical f h is k = refl

    alike_by : ((k : Kind) → Accepted k (layout k)) → (infer : Bool) (h f : Finding) → IsFinding false c h → IsFinding infer c f → IsFinding infer (canonical_by h c) (normal_finding f)
    alike_by read_back infer (Geometry g) (Geometry h) k is =
        subst (λ x. IsFinding infer x (normal_finding (Geometry h))) (sym (same_written g h c (geometry_alone false infer g (Geometry h) k is))) (stays read_back infer c h is)
    alike_by read_back infer (Geometry g) f k is = absurd (geometry_alone false infer g f k is)
    alike_by read_back infer h (Geometry g) k is = absurd (geometry_alone infer false g h is k)
    alike_by read_back infer h f k is = is

  pub one_canonical : HasOneCanonical
  one_canonical c n p (f, is, e) (h, k, d) = e ∙ same_canonical c f h is k ∙ sym d

  pub found_alike : ((k : Kind) → Accepted k (layout k)) → CanonicalIsFoundAlike
  found_alike read_back infer c n f (h, k, e) is = subst (λ x. IsFinding infer x (normal_finding f)) (sym e) (alike_by c read_back infer h f k is)
