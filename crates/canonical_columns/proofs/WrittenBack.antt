-- What is written of extension metadata is read back.
use Rattle.std.proofs.Common.{◌≡◌, [], ◌∷◌, append-nil, Option, None, Some, option_map, option_and_then, codes, refl, sym, ap, ◌∙◌, arith}
use Rattle.json.specs.Json.{Json, object, Members, no_members, member, value, if_last}
use Rattle.json.specs.Find.{get}
use Rattle.json.specs.Print.{print, print_from}
use Rattle.json.specs.Tree.{json_tokens}
use Rattle.json.proofs.Printed.Trees.{value-json_tokens}
use Rattle.serde_json.specs.Data.{Data}
use Rattle.serde_json.specs.Data as tree
use Rattle.serde_json.specs.Read.{of_json, of_members, read, max_depth}
use Rattle.value_tokens.specs.Values.{or_null, IsReadable}
use Rattle.arrow_values.specs.Tree.{Text}
use Rattle.geoarrow_meta.specs.declared.edges.Edges.{Edges}
use Rattle.geoarrow_meta.specs.declared.edges.Edges.TheVariants.{Andoyer, Karney, Spherical, Thomas, Vincenty}
use Rattle.geoarrow_meta.specs.declared.crs.crs_type.CrsType.{CrsType}
use Rattle.geoarrow_meta.specs.Read.{crs_type_text, edges_text, edges_data, present}
use Rattle.geoarrow_meta.specs.MetadataText.{metadata_data}
use Rattle.column_check.specs.Metadata.{Values, values_of, unless_null, unless_planar, DataDenotes, JsonDenotes, TextDenotes, HasCrs, TextHasCrs}
use Rattle.column_check.specs.declared.metadata.ColumnMetadata.{ColumnMetadata}
use Rattle.canonical_columns.specs.Canonical.{with_text, metadata_object, normal_text, IsWritable}
use Rattle.canonical_columns.specs.Laws.{normal_values}
use Rattle.canonical_columns.proofs.Reading.{tokens_written}

-- metadata of these values
abbrev pub metadata_of : Option Json → Option CrsType → Option Edges → ColumnMetadata
metadata_of crs t e = record { crs = crs; crs_type = t; edges = e }

-- a CRS that is there is not null, as it is written and as it is read
abbrev pub IsPresent : Option Json → Type 0
IsPresent crs = (unless_null crs ≡ crs) × (present (option_and_then of_json crs) ≡ option_and_then of_json crs)

-- ---- the object is read

pub read_object : (j : Json) (s : Text) → IsReadable j → s ≡ print (json_tokens j) → read s ≡ of_json j
read_object j s (numbers, shallow) e =
    let next = ap (value max_depth) (tokens_written j s numbers e ∙ sym (append-nil (json_tokens j))) ∙ value-json_tokens j max_depth [] shallow in
    ap (λ o. option_and_then of_json (option_and_then (λ p. if_last p.0 p.1) o)) next

-- the members behind the CRS
abbrev pub rest : Option CrsType → Option Edges → Members
rest t e = with_text (codes "crs_type") (option_map crs_type_text t) (with_text (codes "edges") (option_map edges_text e) no_members)

readable : (j : Json) (t : Option CrsType) (e : Option Edges) → IsWritable (Some j) → IsReadable (object (member (codes "crs") j (rest t e)))
readable j None None h = ((h.0, tt), omega (arith, h.1))
readable j None (Some e) h = ((h.0, (tt, tt)), omega (arith, h.1))
readable j (Some t) None h = ((h.0, (tt, tt)), omega (arith, h.1))
readable j (Some t) (Some e) h = ((h.0, (tt, (tt, tt))), omega (arith, h.1))

-- a CRS, or null where there is none, can be written
null_writable : (crs : Option Json) → IsWritable crs → IsWritable (Some (or_null crs))
null_writable None h = (tt, omega arith, (tree.null, refl))
null_writable (Some j) h = h

pub object_readable : (m : ColumnMetadata) → IsWritable m.crs → IsReadable (metadata_object m)
object_readable m h = readable (or_null m.crs) m.crs_type m.edges (null_writable m.crs h)

abbrev object_data : Members → Option Data → Option Data
object_data ms o = option_map tree.object (option_and_then (λ d. of_members ms (tree.put (codes "crs") d tree.no_members)) o)

as_data : (j : Json) (d : Data) (t : Option CrsType) (e : Option Edges) → of_json j ≡ Some d → of_json (object (member (codes "crs") j (rest t e))) ≡ Some (metadata_data d t e)
as_data j d None None is = ap (object_data (rest None None)) is
as_data j d None (Some e) is = ap (object_data (rest None (Some e))) is
as_data j d (Some t) None is = ap (object_data (rest (Some t) None)) is
as_data j d (Some t) (Some e) is = ap (object_data (rest (Some t) (Some e))) is

pub object_data_of : (m : ColumnMetadata) (d : Data) → of_json (or_null m.crs) ≡ Some d → of_json (metadata_object m) ≡ Some (metadata_data d m.crs_type m.edges)
object_data_of m d is = as_data (or_null m.crs) d m.crs_type m.edges is

-- ---- its values

pub edges_stand : (e : Option Edges) → option_map edges_data e ≡ unless_planar (option_map edges_data e)
edges_stand None = refl
edges_stand (Some Andoyer) = refl
edges_stand (Some Karney) = refl
edges_stand (Some Spherical) = refl
edges_stand (Some Thomas) = refl
edges_stand (Some Vincenty) = refl

denotes_with : (o : Option Data) (d : Data) (t : Option CrsType) (e : Option Edges) → o ≡ present (Some d) → DataDenotes (metadata_data d t e) (record { crs = o; crs_type = t; edges = e })
denotes_with o d None None is = record { is_object = refl; crs = is; crs_type = refl; edges = refl }
denotes_with o d None (Some e) is = record { is_object = refl; crs = is; crs_type = refl; edges = edges_stand (Some e) }
denotes_with o d (Some t) None is = record { is_object = refl; crs = is; crs_type = refl; edges = refl }
denotes_with o d (Some t) (Some e) is = record { is_object = refl; crs = is; crs_type = refl; edges = edges_stand (Some e) }

-- the value of a CRS, or of null where there is none
pub value_there : (crs : Option Json) → IsWritable crs → IsPresent crs → (d : Data) × (of_json (or_null crs) ≡ Some d) × (option_and_then of_json crs ≡ present (Some d))
value_there None h p = (tree.null, refl, refl)
value_there (Some j) (numbers, shallow, (d, is)) p = (d, is, sym p.1 ∙ ap present is)

-- the CRS of the object, as it is written
pub crs_with : (j : Json) (t : Option CrsType) (e : Option Edges) → get (codes "crs") (object (member (codes "crs") j (rest t e))) ≡ Some j
crs_with j None None = refl
crs_with j None (Some e) = refl
crs_with j (Some t) None = refl
crs_with j (Some t) (Some e) = refl

crs_back : (crs : Option Json) → unless_null crs ≡ crs → crs ≡ unless_null (Some (or_null crs))
crs_back None h = refl
crs_back (Some j) h = sym h

-- ---- the text

pub begins : (m : ColumnMetadata) → (after : Text) × (print (json_tokens (metadata_object m)) ≡ 123 ∷ after)
unfolding print_from
begins m = (_, refl)

pub not_empty : (s after : Text) (v : Values) (crs : Option Json) → s ≡ 123 ∷ after → JsonDenotes s v → HasCrs s crs → TextDenotes (Some s) v × TextHasCrs (Some s) crs
not_empty [] after v crs e denotes has = absurd cc
not_empty (x ∷ s) after v crs e denotes has = (denotes, has)

object_back : (m : ColumnMetadata) → IsWritable m.crs → IsPresent m.crs
    → TextDenotes (Some (print (json_tokens (metadata_object m)))) (values_of m) × TextHasCrs (Some (print (json_tokens (metadata_object m)))) m.crs
object_back m h p =
    let j = metadata_object m in
    let s = print (json_tokens j) in
    let readable = object_readable m h in
    let there = value_there m.crs h p in
    let reads = read_object j s readable refl ∙ object_data_of m there.0 there.1 in
    let denotes : JsonDenotes s (values_of m) = (metadata_data there.0 m.crs_type m.edges, reads, denotes_with (option_and_then of_json m.crs) there.0 m.crs_type m.edges there.2) in
    let has : HasCrs s m.crs = (j, tokens_written j s readable.0 refl, crs_back m.crs p.0 ∙ ap unless_null (sym (crs_with (or_null m.crs) m.crs_type m.edges))) in
    not_empty s (begins m).0 (values_of m) m.crs (begins m).1 denotes has

pub written_back : (crs : Option Json) (t : Option CrsType) (e : Option Edges) → IsWritable crs → IsPresent crs
    → TextDenotes (normal_text (metadata_of crs t e)) (values_of (normal_values (metadata_of crs t e))) × TextHasCrs (normal_text (metadata_of crs t e)) crs
written_back None t None h p = (refl, refl)
written_back None t (Some e) h p = object_back (metadata_of None t (Some e)) h p
written_back (Some j) t e h p = object_back (metadata_of (Some j) t e) h p
