-- The extension metadata of a column that is made are read as what they are made of.
use Rattle.std.proofs.Common.{◌≡◌, [], ◌∷◌, append-nil, true, false, Option, None, Some, option_map, option_and_then, codes, refl, sym, ap, ◌∙◌, arith}
use Rattle.json.specs.Json.{Json, object, Members, no_members, member, value, if_last}
use Rattle.json.specs.Find.{get}
use Rattle.json.specs.Print.{print, print_from}
use Rattle.json.specs.Tree.{json_tokens}
use Rattle.json.proofs.Printed.Tokens.{tokens-print}
use Rattle.json.proofs.Printed.Trees.{ArePrintable-json_tokens, value-json_tokens}
use Rattle.serde_json.specs.Data.{Data}
use Rattle.serde_json.specs.Data as tree
use Rattle.serde_json.specs.Read.{of_json, of_members, read, max_depth}
use Rattle.value_tokens.specs.Values.{or_null, IsReadable}
use Rattle.arrow_values.specs.Tree.{Text}
use Rattle.geoarrow_meta.specs.declared.edges.Edges.{Edges}
use Rattle.geoarrow_meta.specs.declared.edges.Edges.TheVariants.{Andoyer, Karney, Spherical, Thomas, Vincenty}
use Rattle.geoarrow_meta.specs.declared.crs.crs_type.CrsType.{CrsType}
use Rattle.geoarrow_meta.specs.declared.crs_text.WrittenCrs.{WrittenCrs}
use Rattle.geoarrow_meta.specs.declared.crs_text.WrittenCrs.TheVariants as crs
use Rattle.geoarrow_meta.specs.Read.{crs_type_text, edges_text, edges_data, present}
use Rattle.geoarrow_meta.specs.MetadataText.{metadata_data}
use Rattle.column_check.specs.Metadata.{Values, values_of, unless_null, unless_planar, DataDenotes, JsonDenotes, TextDenotes, HasCrs, TextHasCrs}
use Rattle.column_check.specs.declared.metadata.ColumnMetadata.{ColumnMetadata}
use Rattle.canonical_columns.specs.Canonical.{with_text, metadata_object, normal_text, IsWritable}
use Rattle.field_makers.specs.declared.new_column.NewColumn.{NewColumn}
use Rattle.field_makers.specs.Made.{crs_of, metadata_of, is_written, is_type_alone, CanBeMade}
use Rattle.field_makers.proofs.Written.{IsPresent, crs_ready}

-- ---- a value that is printed is read

pub read_printed : (j : Json) → IsReadable j → read (print (json_tokens j)) ≡ of_json j
read_printed j (numbers, shallow) =
    let spelled = tokens-print (json_tokens j) (ArePrintable-json_tokens j numbers) ∙ sym (append-nil (json_tokens j)) in
    let next = ap (value max_depth) spelled ∙ value-json_tokens j max_depth [] shallow in
    ap (λ o. option_and_then of_json (option_and_then (λ p. if_last p.0 p.1) o)) next

-- ---- the object

-- the members behind the CRS
abbrev rest : Option CrsType → Option Edges → Members
rest t e = with_text (codes "crs_type") (option_map crs_type_text t) (with_text (codes "edges") (option_map edges_text e) no_members)

readable : (j : Json) (t : Option CrsType) (e : Option Edges) → IsWritable (Some j) → IsReadable (object (member (codes "crs") j (rest t e)))
readable j None None h = ((h.0, tt), omega (arith, h.1))
readable j None (Some e) h = ((h.0, (tt, tt)), omega (arith, h.1))
readable j (Some t) None h = ((h.0, (tt, tt)), omega (arith, h.1))
readable j (Some t) (Some e) h = ((h.0, (tt, (tt, tt))), omega (arith, h.1))

null_writable : (crs : Option Json) → IsWritable crs → IsWritable (Some (or_null crs))
null_writable None h = (tt, omega arith, (tree.null, refl))
null_writable (Some j) h = h

object_readable : (m : ColumnMetadata) → IsWritable m.crs → IsReadable (metadata_object m)
object_readable m h = readable (or_null m.crs) m.crs_type m.edges (null_writable m.crs h)

abbrev object_data : Members → Option Data → Option Data
object_data ms o = option_map tree.object (option_and_then (λ d. of_members ms (tree.put (codes "crs") d tree.no_members)) o)

object_read : (j : Json) (d : Data) (t : Option CrsType) (e : Option Edges) → of_json j ≡ Some d → of_json (object (member (codes "crs") j (rest t e))) ≡ Some (metadata_data d t e)
object_read j d None None is = ap (object_data (rest None None)) is
object_read j d None (Some e) is = ap (object_data (rest None (Some e))) is
object_read j d (Some t) None is = ap (object_data (rest (Some t) None)) is
object_read j d (Some t) (Some e) is = ap (object_data (rest (Some t) (Some e))) is

-- ---- its values

edges_stand : (e : Edges) → option_map edges_data (Some e) ≡ unless_planar (option_map edges_data (Some e))
edges_stand Andoyer = refl
edges_stand Karney = refl
edges_stand Spherical = refl
edges_stand Thomas = refl
edges_stand Vincenty = refl

denotes_with : (o : Option Data) (d : Data) (t : Option CrsType) (e : Option Edges) → o ≡ present (Some d) → DataDenotes (metadata_data d t e) (record { crs = o; crs_type = t; edges = e })
denotes_with o d None None is = record { is_object = refl; crs = is; crs_type = refl; edges = refl }
denotes_with o d None (Some e) is = record { is_object = refl; crs = is; crs_type = refl; edges = edges_stand e }
denotes_with o d (Some t) None is = record { is_object = refl; crs = is; crs_type = refl; edges = refl }
denotes_with o d (Some t) (Some e) is = record { is_object = refl; crs = is; crs_type = refl; edges = edges_stand e }

-- the value of a CRS, or of null where there is none
value_there : (crs : Option Json) → IsWritable crs → IsPresent crs → (d : Data) × (of_json (or_null crs) ≡ Some d) × (option_and_then of_json crs ≡ present (Some d))
value_there None h p = (tree.null, refl, refl)
value_there (Some j) (numbers, shallow, (d, is)) p = (d, is, sym p.1 ∙ ap present is)

-- the CRS of the object, as it is written
crs_with : (j : Json) (t : Option CrsType) (e : Option Edges) → get (codes "crs") (object (member (codes "crs") j (rest t e))) ≡ Some j
crs_with j None None = refl
crs_with j None (Some e) = refl
crs_with j (Some t) None = refl
crs_with j (Some t) (Some e) = refl

crs_back : (crs : Option Json) → unless_null crs ≡ crs → crs ≡ unless_null (Some (or_null crs))
crs_back None h = refl
crs_back (Some j) h = sym h

-- ---- its text

begins : (m : ColumnMetadata) → (after : Text) × (print (json_tokens (metadata_object m)) ≡ 123 ∷ after)
unfolding print_from
begins m = (_, refl)

not_empty : (s after : Text) (v : Values) (crs : Option Json) → s ≡ 123 ∷ after → JsonDenotes s v → HasCrs s crs → TextDenotes (Some s) v × TextHasCrs (Some s) crs
not_empty [] after v crs e denotes has = absurd cc
not_empty (x ∷ s) after v crs e denotes has = (denotes, has)

-- a text is read as these values, with the CRS as it is written
abbrev pub IsReadAs : Option Text → ColumnMetadata → Type 0
IsReadAs t m = TextDenotes t (values_of m) × TextHasCrs t m.crs

object_back : (m : ColumnMetadata) → IsWritable m.crs × IsPresent m.crs → IsReadAs (Some (print (json_tokens (metadata_object m)))) m
object_back m (h, p) =
    let j = metadata_object m in
    let s = print (json_tokens j) in
    let readable = object_readable m h in
    let there = value_there m.crs h p in
    let reads = read_printed j readable ∙ object_read (or_null m.crs) there.0 m.crs_type m.edges there.1 in
    let denotes : JsonDenotes s (values_of m) = (metadata_data there.0 m.crs_type m.edges, reads, denotes_with (option_and_then of_json m.crs) there.0 m.crs_type m.edges there.2) in
    let spelled = tokens-print (json_tokens j) (ArePrintable-json_tokens j readable.0) in
    let has : HasCrs s m.crs = (j, spelled, crs_back m.crs p.0 ∙ ap unless_null (sym (crs_with (or_null m.crs) m.crs_type m.edges))) in
    not_empty s (begins m).0 (values_of m) m.crs (begins m).1 denotes has

abbrev of_parts : WrittenCrs → Option CrsType → Option Edges → ColumnMetadata
of_parts c t e = record { crs = crs_of c; crs_type = t; edges = e }

back_by : (c : WrittenCrs) (t : Option CrsType) (e : Option Edges) → is_written c ≡ true → is_type_alone c t ≡ false → IsReadAs (normal_text (of_parts c t e)) (of_parts c t e)
back_by crs.Absent None None h k = (refl, refl)
back_by crs.Absent (Some t) None h k = absurd cc
back_by crs.Absent t (Some e) h k = object_back (of_parts crs.Absent t (Some e)) (crs_ready crs.Absent h)
back_by (crs.Text s) t e h k = object_back (of_parts (crs.Text s) t e) (crs_ready (crs.Text s) h)
back_by (crs.Json s) t e h k = object_back (of_parts (crs.Json s) t e) (crs_ready (crs.Json s) h)

pub read_back : (n : NewColumn) → CanBeMade n → IsReadAs (normal_text (metadata_of n)) (metadata_of n)
read_back n can = back_by n.crs n.crs_type n.edges can.0 can.1
