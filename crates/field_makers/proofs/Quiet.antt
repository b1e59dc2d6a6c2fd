-- Of a column that is made nothing is found, where its CRS and its type go together.
use Rattle.std.proofs.Common.{◌≡◌, ℕ, zero, suc, List, [], ◌∷◌, ◌++◌, map, Bool, true, false, not, ◌&&◌, cond, is_some, Option, None, Some, refl, ap, ◌∙◌, subst, arith, ◌+◌, codes}
use Rattle.std.specs.List.{filter}
use Rattle.std.specs.Prelude.{⊤, option_to_list}
use Rattle.json.specs.Json as json
use Rattle.json.specs.Json.{Json, document}
use Rattle.json.specs.Print.{print}
use Rattle.json.specs.Tree.{json_tokens}
use Rattle.json.proofs.Printed.Trees.{document-print}
use Rattle.value_tokens.specs.Values.{is_object, is_string}
use Rattle.arrow_values.specs.Tree.{Text, Tree}
use Rattle.arrow_columns.specs.Column.{name_on, metadata_on}
use Rattle.arrow_columns.specs.Types.{TypeTree, ColumnTree}
use Rattle.arrow_columns.specs.Outlines.{outline}
use Rattle.arrow_columns.specs.declared.outline.Outline.TheVariants.{Layout}
use Rattle.geoarrow_layout.specs.declared.native_kinds.Kind.{Kind}
use Rattle.geoarrow_layout.specs.declared.native_kinds.Kind.TheVariants as kinds
use Rattle.geoarrow_meta.specs.declared.edges.Edges.{Edges}
use Rattle.geoarrow_meta.specs.declared.crs.crs_type.CrsType.{CrsType}
use Rattle.geoarrow_meta.specs.declared.crs.crs_type.CrsType.TheVariants.{Projjson, Wkt2_2019, AuthorityCode, Srid}
use Rattle.geoarrow_meta.specs.declared.crs_text.WrittenCrs.{WrittenCrs}
use Rattle.geoarrow_meta.specs.declared.crs_text.WrittenCrs.TheVariants as crs
use Rattle.crs_identity.specs.Forms.{json_in, form_of_value}
use Rattle.crs_identity.specs.FormNames.{form_name}
use Rattle.crs_identity.specs.declared.names.FormName.{FormName}
use Rattle.crs_identity.specs.declared.names.FormName.TheVariants as forms
use Rattle.crs_identity.specs.declared.malformed.Part.{Part}
use Rattle.column_check.specs.Parts.{Spot, spot_in}
use Rattle.column_check.specs.NotWhole.{is_not_whole, or_later, unless_again, first_not_whole, first_of_items, first_of_members, not_whole_in}
use Rattle.column_check.specs.Places.{member_place, item_place}
use Rattle.column_check.specs.Shown.{shown}
use Rattle.crs_identity.specs.Equality.{has_key}
use Rattle.column_check.specs.KeyWarnings.{spots_in, key_warnings}
use Rattle.column_check.specs.CrsWarnings.{crs_spot, projjson_in, part_spot, are_wrong, malformed_spots, is_malformed, contradicts, is_old_wkt, lacks_type, is_odd_crs, form_warnings, value_warnings, read_warnings, warnings_of_crs, crs_warnings}
use Rattle.column_check.specs.Said.{Said, said, said_if, at_most, at_each}
use Rattle.column_check.specs.Warnings.{AreWarnings, name_warnings, text_warnings, number_warnings, axis_warnings, nullable_warnings, union_warnings, layout_warnings, type_warnings, type_findings}
use Rattle.column_check.specs.declared.code.WarningCode.{WarningCode}
use Rattle.column_check.specs.declared.code.WarningCode.TheVariants.{OldExtensionName, CoordinatesNotFloat, CoordinatesNotDouble, AxisOrder, AxisNames, NullableInner, NestedGeometry, MetadataEmpty, MetadataKeyCase, EdgesPlanar, CrsMalformed, CrsEmpty, CrsTypeContradicts, CrsWkt1, CrsWithoutType, CrsNumber, CrsNotWhole}
use Rattle.column_check.specs.declared.code.WarningCode.TheVariants as codes_of
use Rattle.column_check.specs.declared.metadata.ColumnMetadata.{ColumnMetadata}
use Rattle.column_check.specs.declared.finding.Geometry.{Geometry as GeometryColumn}
use Rattle.column_check.specs.declared.finding.Finding.TheVariants.{Geometry}
use Rattle.column_check.specs.declared.warning.Warning.{Warning}
use Rattle.canonical_columns.specs.Canonical.{IsWritable}
use Rattle.canonical_columns.specs.Laws.{normal_values, is_of_form, CanonicalKeepsWarnings}
use Rattle.field_makers.specs.Made.{crs_of, metadata_of, made, is_written, is_type_alone}
use Rattle.field_makers.specs.Laws.{geometry_of, MadeIsFound, MadeIsCanonical, Fits, GoTogether, is_noted, notes_in, OnlyNotesAreFound, NothingIsFound}
use Rattle.field_makers.proofs.Written.{projjson_text, crs_ready}
use Rattle.field_makers.proofs.ReadBack.{read_printed}

-- ---- of its form

abbrev AreOfForm : List Said → Type 0
AreOfForm [] = ⊤
AreOfForm (w ∷ ws) = (is_of_form w.0 ≡ true) × AreOfForm ws

-- what is not about the form
abbrev others : List Said → List Said
others ws = filter (λ w. not (is_of_form w.0)) ws

both : (xs ys : List Said) → AreOfForm xs → AreOfForm ys → AreOfForm (xs ++ ys)
both [] ys h k = k
both (w ∷ xs) ys h k = (h.0, both xs ys h.1 k)

at_spots : (n : ℕ) (code : WarningCode) (spots : List Spot) → is_of_form code ≡ true → AreOfForm (at_most n code spots)
at_spots n code [] h = tt
at_spots zero code (spot ∷ spots) h = (h, tt)
at_spots (suc n) code (spot ∷ spots) h = (h, at_spots n code spots h)

at_one : (code : WarningCode) (holds : Bool) (spot : Spot) → is_of_form code ≡ true → AreOfForm (said_if code holds spot)
at_one code true spot h = (h, tt)
at_one code false spot h = tt

dropped : (xs ys : List Said) → AreOfForm xs → others (xs ++ ys) ≡ others ys
dropped [] ys h = refl
dropped (w ∷ xs) ys h = rw h.0 (dropped xs ys h.1)

nullables_form : (k : Kind) (t : Tree) → AreOfForm (nullable_warnings k t)
nullables_form (kinds.Rect d) t = tt
nullables_form _ t = at_spots 15 NullableInner _ refl

layout_form : (k : Kind) (t : Tree) → AreOfForm (layout_warnings k t)
layout_form k t =
    both (axis_warnings AxisOrder k t) _ (at_spots 15 AxisOrder _ refl)
    (both (axis_warnings AxisNames k t) _ (at_spots 15 AxisNames _ refl)
    (both (nullable_warnings k t) (union_warnings t) (nullables_form k t) (at_spots 15 codes_of.UnionMode _ refl)))

type_form : (k : Kind) (t : TypeTree) → AreOfForm (type_warnings k t)
type_form k t =
    both (number_warnings CoordinatesNotFloat t) _ (at_spots 15 CoordinatesNotFloat _ refl)
    (both (number_warnings CoordinatesNotDouble t) _ (at_spots 15 CoordinatesNotDouble _ refl) (layout_form k (outline Layout t)))

types_form : (c : ColumnTree) (g : GeometryColumn) → AreOfForm (type_findings c (Geometry g))
types_form c g =
    both (name_warnings (name_on c)) _ (at_one OldExtensionName _ _ refl)
    (both (type_warnings g.kind c.data_type) _ (type_form g.kind c.data_type) (at_spots 15 NestedGeometry _ refl))

keys_form : (t : Option Text) → AreOfForm (key_warnings t)
keys_form None = tt
keys_form (Some s) = both (at_each MetadataKeyCase (spots_in (json_in s))) _ (at_spots 15 MetadataKeyCase _ refl) (at_one EdgesPlanar _ _ refl)

-- of geometries all are but what is found of their CRS
form_aside : (notes : Bool) (c : ColumnTree) (g : GeometryColumn) (ws : List Warning) → AreWarnings notes c (Geometry g) ws → others (map said ws) ≡ others (crs_warnings notes g.metadata)
form_aside notes c g ws are =
    ap others are
    ∙ dropped (type_findings c (Geometry g)) _ (types_form c g)
    ∙ dropped (text_warnings (metadata_on c)) _ (at_one MetadataEmpty _ _ refl)
    ∙ dropped (key_warnings (metadata_on c)) (crs_warnings notes g.metadata) (keys_form (metadata_on c))

-- ---- notes are not

abbrev IsOther : Option Said → Type 0
IsOther None = ⊤
IsOther (Some w) = is_of_form w.0 ≡ false

later : (a b : Option Said) → IsOther a → IsOther b → IsOther (or_later a b)
later None b h k = k
later (Some w) b h k = h

again : (is : Bool) (a : Option Said) → IsOther a → IsOther (unless_again is a)
again is None h = tt
again true (Some w) h = tt
again false (Some w) h = h

chosen : (b : Bool) (w : Said) → is_of_form w.0 ≡ false → IsOther (cond b (Some w) None)
chosen true w h = h
chosen false w h = tt

mutual
  value_other : (place : Text) (j : Json) → IsOther (first_not_whole place j)
  value_other place json.null = tt
  value_other place (json.boolean b) = tt
  value_other place (json.number s) = chosen (is_not_whole s) (CrsNotWhole, spot_in place (Some (shown s)), 0) refl
  value_other place (json.string s) = tt
  value_other place (json.array js) = items_other place 0 js
  value_other place (json.object ms) = members_other place ms

  items_other : (place : Text) (n : ℕ) (js : json.Items) → IsOther (first_of_items place n js)
  items_other place n json.no_items = tt
  items_other place n (json.item j js) = later (first_not_whole (item_place place n) j) _ (value_other (item_place place n) j) (items_other place (n + 1) js)

  members_other : (place : Text) (ms : json.Members) → IsOther (first_of_members place ms)
  members_other place json.no_members = tt
  members_other place (json.member k j ms) =
      later (unless_again (has_key k ms) (first_not_whole (member_place place k) j)) _ (again (has_key k ms) _ (value_other (member_place place k) j)) (members_other place ms)

kept : (b : Bool) (o : Option Said) → IsOther o → others (option_to_list (cond b o None)) ≡ option_to_list (cond b o None)
kept true None h = refl
kept true (Some w) h = rw h refl
kept false o h = refl

notes_kept : (notes : Bool) (crs : Option Json) → others (notes_in notes crs) ≡ notes_in notes crs
notes_kept notes None = refl
notes_kept notes (Some j) = kept (is_noted notes (Some j)) (not_whole_in (Some j)) (value_other (codes "/crs") j)

-- ---- of its CRS

none_wrong : (j : Json) (parts : List Part) → are_wrong parts ≡ false → map (part_spot j) parts ≡ []
none_wrong j [] h = refl
none_wrong j (part ∷ parts) h = absurd cc

well_formed : (o : Option Json) → is_malformed o ≡ false → malformed_spots o ≡ []
well_formed None h = refl
well_formed (Some j) h = none_wrong j _ h

fits_type : (t : Option CrsType) (j : Json) (n : FormName) → Fits t j n → (contradicts t j n ≡ false) × (is_old_wkt t n ≡ false)
fits_type None j n h = (refl, refl)
fits_type (Some Projjson) j forms.Projjson h = (refl, refl)
fits_type (Some Projjson) j _ h = absurd h
fits_type (Some Wkt2_2019) j forms.Wkt h = (refl, refl)
fits_type (Some Wkt2_2019) j _ h = absurd h
fits_type (Some AuthorityCode) j forms.Code h = (refl, refl)
fits_type (Some AuthorityCode) j _ h = absurd h
fits_type (Some Srid) j n h = (ap not h, refl)

untyped_known : (j : Json) (n : FormName) → Fits None j n → lacks_type None j n ≡ false
untyped_known (json.string s) forms.Other h = absurd h
untyped_known (json.string s) _ h = refl
untyped_known _ n h = refl

has_type : (t : Option CrsType) (j : Json) (n : FormName) → Fits t j n → lacks_type t j n ≡ false
has_type None j n h = untyped_known j n h
has_type (Some t) j n h = refl

form_quiet : (t : Option CrsType) (j : Json) (o : Option Json) (n : FormName) → is_malformed o ≡ false → Fits t j n → is_odd_crs j ≡ false → form_warnings t j o n ≡ []
form_quiet t j o n well fits even =
    let spots = well_formed o well in
    let type = fits_type t j n fits in
    let typed = has_type t j n fits in
    λ i. at_each CrsMalformed (spots i)
    ++ (said_if CrsTypeContradicts (not (well i) && type.0 i) (crs_spot j)
    ++ (said_if CrsWkt1 (type.1 i) (crs_spot j)
    ++ (said_if CrsWithoutType (typed i) (crs_spot j)
    ++ said_if CrsNumber (even i) (crs_spot j))))

value_quiet : (t : Option CrsType) (j : Json) → is_odd_crs j ≡ false → GoTogether t (Some j) → value_warnings t j ≡ []
value_quiet t j even (there, fits, well) =
    let n = form_name (form_of_value j) in
    ap (λ b. cond b (said_if CrsEmpty true (crs_spot j)) (form_warnings t j (projjson_in t j) n)) there ∙ form_quiet t j (projjson_in t j) n well fits even

crs_noted : (notes : Bool) (t : Option CrsType) (j : Json) → IsWritable (Some j) → is_odd_crs j ≡ false → GoTogether t (Some j) → warnings_of_crs notes t (Some j) ≡ notes_in notes (Some j)
crs_noted notes t j (numbers, shallow, (d, is)) even together =
    let s = print (json_tokens j) in
    let reads = read_printed j (numbers, omega (arith, shallow)) ∙ is in
    let found : json_in s ≡ Some j = ap (λ o. cond (is_some o) (document s) None) reads ∙ document-print j numbers (omega (arith, shallow)) in
    (λ i. read_warnings t (found i) ++ option_to_list (cond (is_noted notes (Some j)) (not_whole_in (found i)) None)) ∙ ap (λ ws. ws ++ notes_in notes (Some j)) (value_quiet t j even together)

not_odd : (j : Json) → is_object j ≡ true → is_odd_crs j ≡ false
not_odd j h = ap (λ b. not b && not (is_string j)) h

noted_by : (notes : Bool) (c : WrittenCrs) (t : Option CrsType) → is_written c ≡ true → GoTogether t (crs_of c) → warnings_of_crs notes t (crs_of c) ≡ notes_in notes (crs_of c)
noted_by notes crs.Absent t h together = refl
noted_by notes (crs.Text s) t h together = crs_noted notes t (json.string s.now) (crs_ready (crs.Text s) h).0 refl together
noted_by notes (crs.Json s) t h together = crs_noted notes t _ (crs_ready (crs.Json s) h).0 (not_odd _ (projjson_text s.now h).2) together

-- ---- of the column

abbrev of_parts : WrittenCrs → Option CrsType → Option Edges → ColumnMetadata
of_parts c t e = record { crs = crs_of c; crs_type = t; edges = e }

-- no CRS type is lost
normal_by : (c : WrittenCrs) (t : Option CrsType) (e : Option Edges) → is_type_alone c t ≡ false → of_parts c t e ≡ normal_values (of_parts c t e)
normal_by crs.Absent None None h = refl
normal_by crs.Absent (Some t) None h = absurd cc
normal_by crs.Absent t (Some e) h = refl
normal_by (crs.Text s) t e h = refl
normal_by (crs.Json s) t e h = refl

empty : (ws : List Warning) → map said ws ≡ [] → ws ≡ []
empty [] h = refl
empty (w ∷ ws) h = absurd cc

none_noted : (notes : Bool) (crs : Option Json) → is_noted notes crs ≡ false → notes_in notes crs ≡ []
none_noted notes None h = refl
none_noted notes (Some j) h = ap (λ b. option_to_list (cond b (not_whole_in (Some j)) None)) h

pub only_notes : MadeIsFound → MadeIsCanonical → CanonicalKeepsWarnings → OnlyNotesAreFound
only_notes found canonical keeps notes n ws can together are =
    let g = geometry_of n in
    let again : AreWarnings notes (made n) (Geometry (record { kind = n.kind; metadata = normal_values (metadata_of n) })) ws
    = subst (λ m. AreWarnings notes (made n) (Geometry (record { kind = n.kind; metadata = m })) ws) (normal_by n.crs n.crs_type n.edges can.1) are in
    keeps false notes (made n) (made n) (Geometry g) ws ws (canonical n can) ((found false n (Geometry g) can).1 refl) are again
    ∙ form_aside notes (made n) g ws are
    ∙ ap others (noted_by notes n.crs n.crs_type can.0 together)
    ∙ notes_kept notes (crs_of n.crs)

pub nothing_found : MadeIsFound → MadeIsCanonical → CanonicalKeepsWarnings → NothingIsFound
nothing_found found canonical keeps notes n ws can together noted are =
    empty ws (only_notes found canonical keeps notes n ws can together are ∙ none_noted notes (crs_of n.crs) noted)
