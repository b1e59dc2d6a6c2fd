-- What is found of the normal form of a column: what is not about the form.
use Rattle.std.proofs.Common.{◌≡◌, ℕ, zero, suc, ◌+◌, List, [], ◌∷◌, ◌++◌, Bool, true, false, not, ◌&&◌, cond, is_some, Option, None, Some, codes, refl, sym, ap, ◌∙◌, arith}
use Rattle.std.specs.List.{filter}
use Rattle.std.specs.Prelude.{⊤, option_to_list}
use Rattle.json.specs.Json.{Json, null, boolean, number, string, array, object, Items, no_items, item, Members, no_members, member, document}
use Rattle.json.specs.Print.{print}
use Rattle.json.specs.Tree.{json_tokens}
use Rattle.json.proofs.Printed.Trees.{document-print}
use Rattle.serde_json.specs.Data.{Data}
use Rattle.serde_json.specs.Read.{of_json}
use Rattle.arrow_values.specs.Tree.{Text, Tree}
use Rattle.arrow_columns.specs.Column.{name_on, metadata_on}
use Rattle.arrow_columns.specs.Types.{TypeTree, ColumnTree, known}
use Rattle.arrow_columns.specs.Outlines.{outline}
use Rattle.arrow_columns.specs.declared.outline.Outline.TheVariants.{Layout}
use Rattle.geoarrow_layout.specs.declared.dimensions.CoordType.{CoordType}
use Rattle.geoarrow_layout.specs.declared.dimensions.CoordType.TheVariants.{Interleaved, Separated}
use Rattle.geoarrow_layout.specs.declared.dimensions.Dimension.{Dimension}
use Rattle.geoarrow_layout.specs.declared.dimensions.Dimension.TheVariants.{XY}
use Rattle.geoarrow_layout.specs.declared.names.ExtensionName.{ExtensionName}
use Rattle.geoarrow_layout.specs.declared.names.ExtensionName.TheVariants as names
use Rattle.geoarrow_layout.specs.declared.native_kinds.NativeKind.{NativeKind}
use Rattle.geoarrow_layout.specs.declared.native_kinds.NativeKind.TheVariants.{Point, LineString, Polygon, MultiPoint, MultiLineString, MultiPolygon, GeometryCollection}
use Rattle.geoarrow_layout.specs.declared.native_kinds.Width.TheVariants.{Plain}
use Rattle.geoarrow_layout.specs.declared.native_kinds.Kind.{Kind}
use Rattle.geoarrow_layout.specs.declared.native_kinds.Kind.TheVariants as kinds
use Rattle.geoarrow_layout.specs.Kinds.{name_text, name_of, extension_of}
use Rattle.geoarrow_layout.specs.Layouts.{layout}
use Rattle.geoarrow_layout.specs.Shapes.{Accepts}
use Rattle.geoarrow_meta.specs.declared.edges.Edges.{Edges}
use Rattle.geoarrow_meta.specs.declared.edges.Edges.TheVariants.{Andoyer}
use Rattle.geoarrow_meta.specs.declared.crs.crs_type.CrsType.{CrsType}
use Rattle.geoarrow_meta.specs.Read.{some_has_float}
use Rattle.geoarrow_meta.specs.MetadataText.{metadata_data}
use Rattle.value_tokens.specs.Values.{or_null}
use Rattle.crs_identity.specs.Forms.{json_in, form_of_value}
use Rattle.crs_identity.specs.FormNames.{form_name}
use Rattle.crs_identity.specs.declared.names.FormName.{FormName}
use Rattle.crs_identity.specs.Equality.{has_key}
use Rattle.column_check.specs.Parts.{Spot, spot_in}
use Rattle.column_check.specs.Shown.{shown}
use Rattle.column_check.specs.Places.{member_place, item_place}
use Rattle.column_check.specs.NotWhole.{is_not_whole, of_number, or_later, unless_again, first_not_whole, first_of_items, first_of_members, not_whole_in}
use Rattle.column_check.specs.KeyWarnings.{spots_in, edges_warnings, key_warnings}
use Rattle.column_check.specs.CrsWarnings.{crs_spot, is_empty_crs, projjson_in, malformed_spots, is_malformed, contradicts, is_old_wkt, lacks_type, is_odd_crs, form_warnings, read_warnings, warnings_of_crs, crs_warnings}
use Rattle.column_check.specs.Said.{Said, said_if, at_most, at_each}
use Rattle.column_check.specs.Metadata.{Values, values_of, TextDenotes, HasMetadataFault}
use Rattle.column_check.specs.Types.{TypeAccepted, HasTypeFault}
use Rattle.column_check.specs.Finding.{IsFinding}
use Rattle.column_check.specs.Warnings.{name_warnings, text_warnings, number_warnings, axis_warnings, nullable_warnings, union_warnings, layout_warnings, type_warnings, nested_warnings, type_findings, metadata_findings}
use Rattle.column_check.specs.declared.code.WarningCode.{WarningCode}
use Rattle.column_check.specs.declared.code.WarningCode.TheVariants.{OldExtensionName, CoordinatesNotFloat, CoordinatesNotDouble, AxisOrder, AxisNames, NullableInner, NestedGeometry, MetadataEmpty, MetadataKeyCase, EdgesPlanar, CrsMalformed, CrsEmpty, CrsTypeContradicts, CrsWkt1, CrsWithoutType, CrsNumber, CrsNotWhole}
use Rattle.column_check.specs.declared.code.WarningCode.TheVariants as codes_of
use Rattle.column_check.specs.declared.data_type.TypeFault.{TypeFault}
use Rattle.column_check.specs.declared.metadata.MetadataFault.{MetadataFault}
use Rattle.column_check.specs.declared.metadata.ColumnMetadata.{ColumnMetadata}
use Rattle.column_check.specs.declared.finding.Geometry.{Geometry as GeometryColumn}
use Rattle.column_check.specs.declared.finding.Finding.{Finding}
use Rattle.column_check.specs.declared.finding.Finding.TheVariants.{Geometry}
use Rattle.canonical_columns.specs.Canonical.{metadata_object, normal_text, as_written, canonical_by, IsWritable}
use Rattle.canonical_columns.specs.Laws.{normal_values, normal_finding, is_of_form, left_of, CanonicalKeepsWarnings}
use Rattle.canonical_columns.proofs.Extensions.{name_set, metadata_set}
use Rattle.canonical_columns.proofs.ReadFrom.{crs_writable}
use Rattle.canonical_columns.proofs.Stays.{crs_present, same_written, IsGeometryAs, geometry_alone}
use Rattle.canonical_columns.proofs.WrittenBack.{metadata_of, rest, IsPresent, read_object, object_readable, object_data_of, value_there, begins}

-- ---- which findings are about the form

-- each is, or none is
abbrev Each : Bool → List Said → Type 0
Each b [] = ⊤
Each b (w ∷ ws) = (is_of_form w.0 ≡ b) × Each b ws

both : (b : Bool) (xs ys : List Said) → Each b xs → Each b ys → Each b (xs ++ ys)
both b [] ys h k = k
both b (w ∷ xs) ys h k = (h.0, both b xs ys h.1 k)

either : (b holds : Bool) (xs ys : List Said) → Each b xs → Each b ys → Each b (cond holds xs ys)
either b true xs ys h k = h
either b false xs ys h k = k

each_most : (b : Bool) (n : ℕ) (code : WarningCode) (spots : List Spot) → is_of_form code ≡ b → Each b (at_most n code spots)
each_most b n code [] h = tt
each_most b zero code (spot ∷ spots) h = (h, tt)
each_most b (suc n) code (spot ∷ spots) h = (h, each_most b n code spots h)

each_if : (b : Bool) (code : WarningCode) (holds : Bool) (spot : Spot) → is_of_form code ≡ b → Each b (said_if code holds spot)
each_if b code true spot h = (h, tt)
each_if b code false spot h = tt

-- those that are about the form are dropped, the others are kept
dropped : (xs ys : List Said) → Each true xs → filter (λ w. not (is_of_form w.0)) (xs ++ ys) ≡ filter (λ w. not (is_of_form w.0)) ys
dropped [] ys h = refl
dropped (w ∷ xs) ys h = rw h.0 (dropped xs ys h.1)

kept : (ws : List Said) → Each false ws → filter (λ w. not (is_of_form w.0)) ws ≡ ws
kept [] h = refl
kept (w ∷ ws) h = rw h.0 (ap (λ l. w ∷ l) (kept ws h.1))

-- ---- of the extension name, the type and the metadata text all are

nullables_form : (k : Kind) (t : Tree) → Each true (nullable_warnings k t)
nullables_form (kinds.Rect d) t = tt
nullables_form _ t = each_most true 15 NullableInner _ refl

layout_form : (k : Kind) (t : Tree) → Each true (layout_warnings k t)
layout_form k t =
    both true (axis_warnings AxisOrder k t) _ (each_most true 15 AxisOrder _ refl)
    (both true (axis_warnings AxisNames k t) _ (each_most true 15 AxisNames _ refl)
    (both true (nullable_warnings k t) (union_warnings t) (nullables_form k t) (each_most true 15 codes_of.UnionMode _ refl)))

type_form : (k : Kind) (t : TypeTree) → Each true (type_warnings k t)
type_form k t =
    both true (number_warnings CoordinatesNotFloat t) _ (each_most true 15 CoordinatesNotFloat _ refl)
    (both true (number_warnings CoordinatesNotDouble t) _ (each_most true 15 CoordinatesNotDouble _ refl) (layout_form k (outline Layout t)))

keys_form : (t : Option Text) → Each true (key_warnings t)
keys_form None = tt
keys_form (Some s) = both true (at_each MetadataKeyCase (spots_in (json_in s))) _ (each_most true 15 MetadataKeyCase _ refl) (each_if true EdgesPlanar _ _ refl)

types_form : (c : ColumnTree) (g : GeometryColumn) → Each true (type_findings c (Geometry g))
types_form c g =
    both true (name_warnings (name_on c)) _ (each_if true OldExtensionName _ _ refl)
    (both true (type_warnings g.kind c.data_type) _ (type_form g.kind c.data_type) (each_most true 15 NestedGeometry _ refl))

-- ---- of a CRS none is

abbrev IsNoForm : Option Said → Type 0
IsNoForm None = ⊤
IsNoForm (Some w) = is_of_form w.0 ≡ false

later : (a b : Option Said) → IsNoForm a → IsNoForm b → IsNoForm (or_later a b)
later None b h k = k
later (Some w) b h k = h

again : (is : Bool) (a : Option Said) → IsNoForm a → IsNoForm (unless_again is a)
again is None h = tt
again true (Some w) h = tt
again false (Some w) h = h

chosen_none : (b : Bool) (w : Said) → is_of_form w.0 ≡ false → IsNoForm (cond b (Some w) None)
chosen_none true w h = h
chosen_none false w h = tt

number_none : (place s : Text) → IsNoForm (of_number place s)
number_none place s = chosen_none (is_not_whole s) (CrsNotWhole, spot_in place (Some (shown s)), 0) refl

mutual
  value_none : (place : Text) (j : Json) → IsNoForm (first_not_whole place j)
  value_none place null = tt
  value_none place (boolean b) = tt
  value_none place (number s) = number_none place s
  value_none place (string s) = tt
  value_none place (array js) = items_none place 0 js
  value_none place (object ms) = members_none place ms

  items_none : (place : Text) (n : ℕ) (js : Items) → IsNoForm (first_of_items place n js)
  items_none place n no_items = tt
  items_none place n (item j js) = later (first_not_whole (item_place place n) j) _ (value_none (item_place place n) j) (items_none place (n + 1) js)

  members_none : (place : Text) (ms : Members) → IsNoForm (first_of_members place ms)
  members_none place no_members = tt
  members_none place (member k j ms) =
      later (unless_again (has_key k ms) (first_not_whole (member_place place k) j)) _ (again (has_key k ms) _ (value_none (member_place place k) j)) (members_none place ms)

note_none : (o : Option Json) → IsNoForm (not_whole_in o)
note_none None = tt
note_none (Some j) = value_none (codes "/crs") j

as_list : (b : Bool) (o : Option Said) → IsNoForm o → Each false (option_to_list (cond b o None))
as_list true None h = tt
as_list true (Some w) h = (h, tt)
as_list false o h = tt

form_none : (t : Option CrsType) (j : Json) (o : Option Json) (n : FormName) → Each false (form_warnings t j o n)
form_none t j o n =
    let contradicting = not (is_malformed o) && contradicts t j n in
    both false (at_each CrsMalformed (malformed_spots o)) _ (each_most false 15 CrsMalformed (malformed_spots o) refl)
    (both false (said_if CrsTypeContradicts contradicting (crs_spot j)) _ (each_if false CrsTypeContradicts contradicting (crs_spot j) refl)
    (both false (said_if CrsWkt1 (is_old_wkt t n) (crs_spot j)) _ (each_if false CrsWkt1 (is_old_wkt t n) (crs_spot j) refl)
    (both false (said_if CrsWithoutType (lacks_type t j n) (crs_spot j)) _ (each_if false CrsWithoutType (lacks_type t j n) (crs_spot j) refl)
    (each_if false CrsNumber (is_odd_crs j) (crs_spot j) refl))))

read_none : (t : Option CrsType) (o : Option Json) → Each false (read_warnings t o)
read_none t None = tt
read_none t (Some j) =
    let form = form_name (form_of_value j) in
    either false (is_empty_crs j) (said_if CrsEmpty true (crs_spot j)) (form_warnings t j (projjson_in t j) form) (each_if false CrsEmpty true (crs_spot j) refl) (form_none t j (projjson_in t j) form)

crs_none : (notes : Bool) (t : Option CrsType) (crs : Option Json) → Each false (warnings_of_crs notes t crs)
crs_none notes t None = tt
crs_none notes t (Some j) =
    let i = json_in (print (json_tokens j)) in
    both false (read_warnings t i) _ (read_none t i) (as_list (notes && some_has_float (of_json j)) (not_whole_in i) (note_none i))

-- ---- of what is written none about the form is found

name_clean : (n : ExtensionName) → name_warnings (Some (name_text n)) ≡ []
name_clean (names.Native Point) = refl
name_clean (names.Native LineString) = refl
name_clean (names.Native Polygon) = refl
name_clean (names.Native MultiPoint) = refl
name_clean (names.Native MultiLineString) = refl
name_clean (names.Native MultiPolygon) = refl
name_clean (names.Native GeometryCollection) = refl
name_clean names.Geometry = refl
name_clean names.Rect = refl
name_clean names.Wkb = refl
name_clean names.Wkt = refl

abbrev IsClean : Kind → Type 0
IsClean k = type_warnings k (known (layout k)) ++ nested_warnings (known (layout k)) ≡ []

native_clean : (k : NativeKind) (c : CoordType) (d : Dimension) → IsClean (kinds.Native k c d)
native_clean Point Interleaved d = refl
native_clean Point Separated XY = refl
native_clean Point Separated _ = refl
native_clean LineString Interleaved d = refl
native_clean LineString Separated XY = refl
native_clean LineString Separated _ = refl
native_clean Polygon Interleaved d = refl
native_clean Polygon Separated XY = refl
native_clean Polygon Separated _ = refl
native_clean MultiPoint Interleaved d = refl
native_clean MultiPoint Separated XY = refl
native_clean MultiPoint Separated _ = refl
native_clean MultiLineString Interleaved d = refl
native_clean MultiLineString Separated XY = refl
native_clean MultiLineString Separated _ = refl
native_clean MultiPolygon Interleaved d = refl
native_clean MultiPolygon Separated XY = refl
native_clean MultiPolygon Separated _ = refl
native_clean GeometryCollection Interleaved d = refl
native_clean GeometryCollection Separated XY = refl
native_clean GeometryCollection Separated _ = refl

type_clean : (k : Kind) → IsClean k
type_clean (kinds.Native k c d) = native_clean k c d
type_clean (kinds.Geometry Interleaved) = refl
type_clean (kinds.Geometry Separated) = refl
type_clean (kinds.Rect XY) = refl
type_clean (kinds.Rect _) = refl
type_clean (kinds.Wkb Plain) = refl
type_clean (kinds.Wkb _) = refl
type_clean (kinds.Wkt Plain) = refl
type_clean (kinds.Wkt _) = refl

text_clean : (crs : Option Json) (t : Option CrsType) (e : Option Edges) → text_warnings (normal_text (metadata_of crs t e)) ≡ []
text_clean None t None = refl
text_clean None t (Some e) = ap (λ s. text_warnings (Some s)) (begins (metadata_of None t (Some e))).1
text_clean (Some j) t e = ap (λ s. text_warnings (Some s)) (begins (metadata_of (Some j) t e)).1

keys_clean : (j : Json) (t : Option CrsType) (e : Option Edges) → spots_in (Some (object (member (codes "crs") j (rest t e)))) ≡ []
keys_clean j None None = refl
keys_clean j None (Some e) = refl
keys_clean j (Some t) None = refl
keys_clean j (Some t) (Some e) = refl

edges_clean : (d : Data) (t : Option CrsType) (e : Option Edges) → edges_warnings (Some (metadata_data d t e)) ≡ []
edges_clean d None None = refl
edges_clean d None (Some Andoyer) = refl
edges_clean d None (Some _) = refl
edges_clean d (Some t) None = refl
edges_clean d (Some t) (Some Andoyer) = refl
edges_clean d (Some t) (Some _) = refl

object_clean : (m : ColumnMetadata) → IsWritable m.crs → IsPresent m.crs → key_warnings (Some (print (json_tokens (metadata_object m)))) ≡ []
object_clean m h p =
    let j = metadata_object m in
    let s = print (json_tokens j) in
    let readable = object_readable m h in
    let there = value_there m.crs h p in
    let reads = read_object j s readable refl ∙ object_data_of m there.0 there.1 in
    let found : json_in s ≡ Some j = ap (λ o. cond (is_some o) (document s) None) reads ∙ document-print j readable.0 (omega (arith, readable.1)) in
    let keys = ap spots_in found ∙ keys_clean (or_null m.crs) m.crs_type m.edges in
    let edges = ap edges_warnings reads ∙ edges_clean there.0 m.crs_type m.edges in
    λ i. at_each MetadataKeyCase (keys i) ++ edges i

key_clean : (crs : Option Json) (t : Option CrsType) (e : Option Edges) → IsWritable crs → IsPresent crs → key_warnings (normal_text (metadata_of crs t e)) ≡ []
key_clean None t None h p = refl
key_clean None t (Some e) h p = object_clean (metadata_of None t (Some e)) h p
key_clean (Some j) t e h p = object_clean (metadata_of (Some j) t e) h p

crs_same : (notes : Bool) (crs : Option Json) (t : Option CrsType) (e : Option Edges) → crs_warnings notes (normal_values (metadata_of crs t e)) ≡ crs_warnings notes (metadata_of crs t e)
crs_same notes None t e = refl
crs_same notes (Some j) t e = refl

-- ---- of a column

abbrev found : Bool → ColumnTree → Finding → List Said
found notes c f = type_findings c f ++ metadata_findings notes c f

-- of geometries as they are written what is found of the CRS is left
of_written : (notes : Bool) (c : ColumnTree) (g : GeometryColumn) → IsFinding false c (Geometry g) → found notes (as_written g c) (normal_finding (Geometry g)) ≡ crs_warnings notes g.metadata
of_written notes c g is =
    let m = g.metadata in
    let writable = crs_writable (metadata_on c) (values_of m) m.crs is.0.3 is.1 in
    let there = crs_present (metadata_on c) m is.0.3 is.1 in
    let text = metadata_set (name_of g.kind) (normal_text m) c.metadata in
    let named = ap name_warnings (name_set (name_of g.kind) (normal_text m) c.metadata) ∙ name_clean (extension_of g.kind) in
    let texts = ap text_warnings text ∙ text_clean m.crs m.crs_type m.edges in
    let keys = ap key_warnings text ∙ key_clean m.crs m.crs_type m.edges writable there in
    let types = type_clean g.kind in
    λ i. (named i ++ types i) ++ (texts i ++ (keys i ++ crs_same notes m.crs m.crs_type m.edges i))

-- and of the column it is what is not about the form
of_geometry : (notes : Bool) (c : ColumnTree) (g : GeometryColumn) → left_of (Geometry g) (found notes c (Geometry g)) ≡ crs_warnings notes g.metadata
of_geometry notes c g =
    let m = g.metadata in
    let crs = crs_warnings notes m in
    dropped (type_findings c (Geometry g)) _ (types_form c g)
    ∙ dropped (text_warnings (metadata_on c)) _ (each_if true MetadataEmpty _ _ refl)
    ∙ dropped (key_warnings (metadata_on c)) crs (keys_form (metadata_on c))
    ∙ kept crs (crs_none notes m.crs_type m.crs)

module _ (distinct : (a b : ExtensionName) → name_text a ≡ name_text b → a ≡ b)
    (one_kind : (name : Text) (t : Tree) (k l : Kind) → Accepts name t k → Accepts name t l → k ≡ l)
    (kind_or_fault : (n : ExtensionName) (t : TypeTree) (k : Kind) (f : TypeFault) → TypeAccepted n t k → ¬ HasTypeFault n t f)
    (one_values : (t : Option Text) (v w : Values) → TextDenotes t v → TextDenotes t w → v ≡ w)
    (values_or_fault : (t : Option Text) (f : MetadataFault) (v : Values) → HasMetadataFault t f → ¬ TextDenotes t v) where
  alone : (infer also : Bool) (c : ColumnTree) (g : GeometryColumn) (f : Finding) → IsFinding infer c (Geometry g) → IsFinding also c f → IsGeometryAs g f
  alone infer also c g f is here = geometry_alone distinct one_kind kind_or_fault one_values values_or_fault c infer also g f is here

  by_findings : (infer notes : Bool) (c : ColumnTree) (h f : Finding) → IsFinding false c h → IsFinding infer c f → found notes (canonical_by h c) (normal_finding f) ≡ left_of f (found notes c f)
  by_findings infer notes c (Geometry g) (Geometry k) is here =
      ap (λ x. found notes x (normal_finding (Geometry k))) (same_written g k c (alone false infer c g (Geometry k) is here))
      ∙ of_written notes c k here ∙ sym (of_geometry notes c k)
  by_findings infer notes c (Geometry g) f is here = absurd (alone false infer c g f is here)
  by_findings infer notes c h (Geometry g) is here = absurd (alone infer false c g h here is)
  by_findings infer notes c h f is here = refl

  pub keeps_warnings : CanonicalKeepsWarnings
  keeps_warnings infer notes c n f ws vs (h, is, same) here before after =
      after ∙ ap (λ x. found notes x (normal_finding f)) same ∙ by_findings infer notes c h f is here ∙ ap (left_of f) (sym before)
