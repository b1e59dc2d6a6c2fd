-- The ported normal form of a field is that of a column: the column of it is its own normal form.
use Rattle.std.proofs.Common.{◌≡◌, [], ◌∷◌, false, Option, None, Some, option_and_then, codes, refl, sym, ap, ◌∙◌, subst}
use Rattle.std.proofs.lemmas.Option.{option_and_then_some, same_Some}
use Rattle.json.specs.Json as json
use Rattle.json.specs.Json.{Json, value, if_last}
use Rattle.json.specs.Find.{get}
use Rattle.json.specs.Lex.{tokens}
use Rattle.json.specs.Print.{print}
use Rattle.json.specs.Tree.{json_tokens, HasNumbers}
use Rattle.serde_json.specs.Data.{Data, null, boolean, number, string, array, object}
use Rattle.serde_json.specs.Find.{get as get_data}
use Rattle.serde_json.specs.Read.{of_json, max_depth}
use Rattle.serde_json.specs.Written.{outline, compact_text, has_float}
use Rattle.value_tokens.proofs.Kept.{Reads as ReadsAsMember, value_read}
use Rattle.arrow_values.specs.Tree.{Text, FieldTree}
use Rattle.arrow_values.specs.Texts.{extension_metadata, set_extension}
use Rattle.arrow_columns.specs.Column.{column_of}
use Rattle.geoarrow_layout.specs.declared.native_kinds.Kind.{Kind}
use Rattle.geoarrow_layout.specs.Kinds.{name_of}
use Rattle.geoarrow_meta.specs.declared.edges.Edges.{Edges}
use Rattle.geoarrow_meta.specs.declared.crs.crs_type.CrsType.{CrsType}
use Rattle.geoarrow_meta.specs.declared.metadata.Metadata.{Metadata}
use Rattle.geoarrow_meta.specs.Laws.{normal_value}
use Rattle.geoarrow_meta.specs.Read.{present, some_has_float, DenotesMetadata}
use Rattle.geoarrow_meta.specs.Written.{of_parts, meta_value, printed, normal, written, IsReadBack}
use Rattle.geoarrow_native.specs.Column.{ReadsAs}
use Rattle.geoarrow_schema.specs.Types.{kind_of, meta_of}
use Rattle.geoarrow_schema.specs.Normal.{rewritten}
use Rattle.column_check.specs.Metadata.{values_of, unless_null, HasCrs, TextHasCrs}
use Rattle.column_check.specs.Finding.{IsOfKind, IsFinding}
use Rattle.column_check.specs.declared.finding.Geometry.{Geometry as GeometryColumn}
use Rattle.column_check.specs.declared.finding.Finding.TheVariants.{Geometry}
use Rattle.canonical_columns.specs.Canonical.{metadata_object, IsCanonical}
use Rattle.canonical_columns.specs.Laws.{IsInOrder, AnswerIsItsOwn}
use Rattle.canonical_columns.proofs.Extensions.{metadata_set, set_again}
use Rattle.canonical_columns.proofs.Ported.{values_in, of_kind, in_order, without_crs, same_text, written_alike}
use Rattle.canonical_columns.proofs.ReadFrom.{read_from}
use Rattle.canonical_columns.proofs.Reading.{tokens_written}
use Rattle.canonical_columns.proofs.Stays.{present_again}
use Rattle.canonical_columns.proofs.WholeNumbers.{value_good}
use Rattle.canonical_columns.proofs.WrittenBack.{metadata_of, begins, crs_with, object_readable}

-- ---- the CRS value of a metadata text: it is not null, and its outline has numbers

-- what is known of a CRS value
abbrev IsKnown : Option Data → Type 0
IsKnown v = (present v ≡ v) × ((d : Data) → v ≡ Some d → HasNumbers (outline d))

present_same : (d e : Data) → present (Some d) ≡ Some e → d ≡ e
present_same null e h = absurd cc
present_same (boolean b) e h = same_Some (boolean b) e h
present_same (number n) e h = same_Some (number n) e h
present_same (string s) e h = same_Some (string s) e h
present_same (array ds) e h = same_Some (array ds) e h
present_same (object ms) e h = same_Some (object ms) e h

no_value : (d : Data) → present None ≡ Some d → ⊥
no_value d h = absurd cc

member_good : (o : Option Json) (found : Option Data) (d : Data) → ReadsAsMember o found → present found ≡ Some d → has_float d ≡ false → HasNumbers (outline d)
member_good None found d none is whole = absurd (no_value d (ap present (sym none) ∙ is))
member_good (Some i) found d (e, reads, there) is whole =
    let same = present_same e d (ap present (sym there) ∙ is) in
    subst (λ x. has_float x ≡ false → HasNumbers (outline x)) same (value_good i e reads) whole

pub known : (t : Option Text) (m : Metadata) → DenotesMetadata t m → IsKnown m.crs.value
known None m h = subst IsKnown (ap (λ n. n.crs.value) (sym h)) (refl, λ d e. absurd cc)
known (Some s) m (d, reads, is) = (
  ap present is.crs ∙ present_again (get_data (codes "crs") d) ∙ sym is.crs,
  λ v there. option_and_then_some of_json (option_and_then (λ p. if_last p.0 p.1) (value max_depth (tokens s))) d reads (λ j last converts.
      let here : present (get_data (codes "crs") d) ≡ Some v = sym is.crs ∙ there in
      member_good (get (codes "crs") j) (get_data (codes "crs") d) v (value_read (codes "crs") j d converts) here (ap some_has_float (sym here) ∙ is.whole)),
)

-- ---- the text that is written has a CRS in order

has_text : (s after : Text) (crs : Option Json) → s ≡ 123 ∷ after → HasCrs s crs → TextHasCrs (Some s) crs
has_text [] after crs e has = absurd cc
has_text (x ∷ s) after crs e has = has

outline_there : (d : Data) → present (Some d) ≡ Some d → Some (outline d) ≡ unless_null (Some (outline d))
outline_there null h = absurd cc
outline_there (boolean b) h = refl
outline_there (number n) h = refl
outline_there (string s) h = refl
outline_there (array ds) h = refl
outline_there (object ms) h = refl

object_numbers : (d : Data) (t : Option CrsType) (e : Option Edges) → HasNumbers (outline d) → HasNumbers (metadata_object (metadata_of (Some (outline d)) t e))
object_numbers d None None h = (h, tt)
object_numbers d None (Some e) h = (h, (tt, tt))
object_numbers d (Some t) None h = (h, (tt, tt))
object_numbers d (Some t) (Some e) h = (h, (tt, (tt, tt)))

data_with : (d : Data) (t : Option CrsType) (e : Option Edges) → get_data (codes "crs") (written (Some d) t e) ≡ Some d
data_with d None None = refl
data_with d None (Some e) = refl
data_with d (Some t) None = refl
data_with d (Some t) (Some e) = refl

-- the CRS of a text, in order, with that value
abbrev HasOrdered : Option Text → Option Data → Type 0
HasOrdered text v = (crs : Option Json) × TextHasCrs text crs × IsInOrder crs × (option_and_then of_json crs ≡ v)

with_value : (d : Data) (t : Option CrsType) (e : Option Edges) → IsKnown (Some d) → IsReadBack (Some (written (Some d) t e)) → HasOrdered (Some (compact_text (written (Some d) t e))) (Some d)
with_value d t e (there, numbers) back =
    let w = written (Some d) t e in
    let s = compact_text w in
    let m = metadata_of (Some (outline d)) t e in
    let j = metadata_object m in
    let printed_so : print (json_tokens j) ≡ s = same_text j w (in_order d t e) in
    let spelled = tokens_written j s (object_numbers d t e (numbers d refl)) (sym printed_so) in
    let converts = (read_from s j w spelled back).1 in
    let found = crs_with (outline d) t e in
    let member = subst (λ o. ReadsAsMember o (get_data (codes "crs") w)) found (value_read (codes "crs") j w converts) in
    let reads : of_json (outline d) ≡ Some d = member.1 ∙ sym member.2 ∙ data_with d t e in
    let has : HasCrs s (Some (outline d)) = (j, spelled, outline_there d there ∙ ap unless_null (sym found)) in
    (Some (outline d), has_text s (begins m).0 (Some (outline d)) (sym printed_so ∙ (begins m).1) has, (d, reads, refl), reads)

without_value : (t : Option CrsType) (e : Option Edges) → HasOrdered (Some (compact_text (written None t e))) None
without_value t e =
    let s = compact_text (written None t e) in
    let m = metadata_of None t e in
    let j = metadata_object m in
    let printed_so : print (json_tokens j) ≡ s = same_text j (written None t e) (without_crs t e) in
    let spelled = tokens_written j s (object_readable m tt).0 (sym printed_so) in
    let has : HasCrs s None = (j, spelled, ap unless_null (sym (crs_with json.null t e))) in
    (None, has_text s (begins m).0 None (sym printed_so ∙ (begins m).1) has, tt, refl)

ordered : (v : Option Data) (t : Option CrsType) (e : Option Edges) → IsKnown v → IsReadBack (meta_value (of_parts v t e)) → HasOrdered (printed (of_parts v t e)) v
ordered None t None k back = (None, refl, tt, refl)
ordered None t (Some e) k back = without_value t (Some e)
ordered (Some d) t e k back = with_value d t e k back

-- ---- the column of the answer

normal_again : (v : Option Data) (t : Option CrsType) (e : Option Edges) → normal (normal (of_parts v t e)) ≡ normal (of_parts v t e)
normal_again None t None = refl
normal_again None t (Some e) = refl
normal_again (Some d) t e = refl

-- a field with what is written for a kind and a metadata stays as it is
rewritten_again : (f : FieldTree) (k : Kind) (m : Metadata) → rewritten (rewritten f k (normal m)) k (normal (normal m)) ≡ rewritten f k (normal m)
rewritten_again f k m =
    let same = ap (λ x. set_extension (name_of k) (printed x) (rewritten f k (normal m)).metadata) (normal_again m.crs.value m.crs.crs_type m.edges) ∙ set_again (name_of k) (printed (normal m)) f.metadata in
    λ i. record (rewritten f k (normal m)) { metadata = same i }

own_answer : (f : FieldTree) (k : Kind) (m : Metadata) → IsKnown m.crs.value → IsReadBack (meta_value m) → ReadsAs (rewritten f k (normal m)) k (normal m)
    → IsCanonical (column_of (rewritten f k (normal m))) (column_of (rewritten f k (normal m)))
own_answer f k m known_value back reads =
    let n = rewritten f k (normal m) in
    let o = normal m in
    let text = metadata_set (name_of k) (printed o) f.metadata in
    let there = ordered o.crs.value o.crs.crs_type o.edges known_value (subst IsReadBack (sym (normal_value m)) back) in
    let h : GeometryColumn = record { kind = k; metadata = metadata_of there.0 o.crs.crs_type o.edges } in
    let values : values_in o ≡ values_of h.metadata = λ i. record { crs = (sym there.3) i; crs_type = o.crs.crs_type; edges = o.edges } in
    let is_kind = subst (λ v. IsOfKind (column_of n) k v) values (of_kind n k o reads) in
    let found : IsFinding false (column_of n) (Geometry h) = (is_kind, subst (λ t. TextHasCrs t there.0) (sym text) there.1) in
    (Geometry h, found, sym (written_alike n k o h refl values there.2 ∙ ap column_of (rewritten_again f k m)))

pub answer_is_its_own : AnswerIsItsOwn
unfolding ReadsAs
answer_is_its_own f n (g, reads, same, read_back) back =
    let m = meta_of g in
    let here = back g reads in
    let known_value = known (extension_metadata f) m reads.1 in
    let again = subst (λ x. ReadsAs x (kind_of g) (normal m)) same (read_back (subst IsReadBack (sym (normal_value m)) here)) in
    subst (λ x. IsCanonical (column_of x) (column_of x)) (sym same) (own_answer f (kind_of g) m known_value here again)
