-- A CRS that is written, and the JSON value that it is.
use Rattle.std.proofs.Common.{◌≡◌, List, [], ◌∷◌, append-nil, true, is_some, Option, None, Some, option_map, option_and_then, codes, refl, sym, ap, ◌∙◌, subst, arith}
use Rattle.std.proofs.lemmas.Option.{option_and_then_some, same_Some, some_pair_parts}
use Rattle.json.specs.Token.{Token}
use Rattle.json.specs.Json as json
use Rattle.json.specs.Json.{Json, value, if_last, max_depth}
use Rattle.json.specs.Lex.{tokens}
use Rattle.json.specs.Print.{print}
use Rattle.json.specs.Tree.{json_tokens}
use Rattle.json.proofs.Nesting.{value-depth}
use Rattle.json.proofs.Numbered.{value-HasNumbers, ArePrintableOrBad-tokens}
use Rattle.json.proofs.Printed.Trees.{value-json_tokens}
use Rattle.json.proofs.Unique.Spelling.{value-json_tokens_back}
use Rattle.serde_json.specs.Data.{Data, Num, Items, Members, null, number, string, array, object, no_members}
use Rattle.serde_json.specs.Find.{as_object}
use Rattle.serde_json.specs.Read.{of_json, of_items, of_members, number_of}
use Rattle.value_tokens.specs.Next.{next_value}
use Rattle.value_tokens.specs.Values.{or_null, json_in, is_object}
use Rattle.arrow_values.specs.Tree.{Text}
use Rattle.geoarrow_meta.specs.Read.{crs_type_text, edges_text, present}
use Rattle.geoarrow_meta.specs.CrsText.{is_object_alone, is_projjson_text, IsCrs}
use Rattle.geoarrow_meta.specs.MetadataText.{crs_tokens, metadata_tokens}
use Rattle.geoarrow_meta.specs.declared.crs.crs_type.CrsType.{CrsType}
use Rattle.geoarrow_meta.specs.declared.edges.Edges.{Edges}
use Rattle.geoarrow_meta.specs.declared.crs_text.WrittenCrs.{WrittenCrs}
use Rattle.geoarrow_meta.specs.declared.crs_text.WrittenCrs.TheVariants as crs
use Rattle.column_check.specs.Metadata.{unless_null}
use Rattle.canonical_columns.specs.Canonical.{with_text, metadata_object, IsWritable}
use Rattle.field_makers.specs.declared.new_column.NewColumn.{NewColumn}
use Rattle.field_makers.specs.Made.{crs_of, metadata_of, is_written}

-- ---- an object

no_object : (d e : Data) → Some d ≡ Some e → as_object d ≡ None → is_some (as_object e) ≡ true → ⊥
no_object d e is none some =
    let here : is_some (as_object d) ≡ true = subst (λ x. is_some (as_object x) ≡ true) (sym (same_Some d e is)) some in
    absurd cc

no_number : (o : Option Num) (d : Data) → option_map number o ≡ Some d → is_some (as_object d) ≡ true → ⊥
no_number None d is some = absurd cc
no_number (Some n) d is some = no_object (number n) d is refl some

no_array : (o : Option Items) (d : Data) → option_map array o ≡ Some d → is_some (as_object d) ≡ true → ⊥
no_array None d is some = absurd cc
no_array (Some ds) d is some = no_object (array ds) d is refl some

-- a value that is read as an object is one
object_by : (j : Json) (d : Data) → of_json j ≡ Some d → is_some (as_object d) ≡ true → is_object j ≡ true
object_by json.null d is some = absurd (no_object null d is refl some)
object_by (json.boolean b) d is some = absurd (no_object _ d is refl some)
object_by (json.number s) d is some = absurd (no_number (number_of s) d is some)
object_by (json.string s) d is some = absurd (no_object (string s) d is refl some)
object_by (json.array js) d is some = absurd (no_array (of_items js) d is some)
object_by (json.object ms) d is some = refl

-- ---- PROJJSON

alone : (o : Option (Data × List Token)) → is_object_alone o ≡ true → (d : Data) × (o ≡ Some (d, [])) × (is_some (as_object d) ≡ true)
alone None h = absurd cc
alone (Some (d, [])) h = (d, refl, h)
alone (Some (d, t ∷ ts)) h = absurd cc

converted_parts : (o : Option Data) (r : List Token) (d : Data) → option_map {U = Data × List Token} (λ b. (b, r)) o ≡ Some (d, []) → (o ≡ Some d) × (r ≡ [])
converted_parts None r d e = absurd cc
converted_parts (Some b) r d e = let parts = some_pair_parts b d r [] e in (ap Some parts.0, parts.1)

-- the text is that value, an object that can be written
abbrev pub IsObjectText : Text → Json → Type 0
IsObjectText s j = (tokens s ≡ json_tokens j) × IsWritable (Some j) × (is_object j ≡ true)

object_text : (s : Text) (i : Json) (rest : List Token) (d : Data) → value 126 (tokens s) ≡ Some (i, rest) → of_json i ≡ Some d → rest ≡ [] → is_some (as_object d) ≡ true → IsObjectText s (json_in s)
object_text s i rest d found is ends some =
    let whole : value 126 (tokens s) ≡ Some (i, []) = found ∙ ap (λ r. Some (i, r)) ends in
    let spelled = value-json_tokens_back 126 (tokens s) [] i whole in
    let numbers = value-HasNumbers 126 (tokens s) [] i (ArePrintableOrBad-tokens s) whole in
    let shallow = value-depth 126 (tokens s) [] i whole in
    let same : json_in s ≡ i = ap (λ ts. or_null (option_and_then (λ p. if_last p.0 p.1) (value max_depth ts))) spelled
    ∙ ap (λ o. or_null (option_and_then (λ p. if_last p.0 p.1) o)) (value-json_tokens i max_depth [] (omega (arith, shallow))) in
    subst (IsObjectText s) (sym same) (spelled ∙ append-nil (json_tokens i), (numbers, shallow, (d, is)), object_by i d is some)

pub projjson_text : (s : Text) → is_projjson_text s ≡ true → IsObjectText s (json_in s)
projjson_text s h =
    let next = alone (next_value 126 (tokens s)) h in
    option_and_then_some (λ p. option_map (λ b. (b, p.1)) (of_json p.0)) (value 126 (tokens s)) (next.0, []) next.1
    (λ p found e. let parts = converted_parts (of_json p.0) p.1 next.0 e in object_text s p.0 p.1 next.0 found parts.0 parts.1 next.2)

-- ---- a CRS

-- a CRS that is there is not null, as it is written and as it is read
abbrev pub IsPresent : Option Json → Type 0
IsPresent crs = (unless_null crs ≡ crs) × (present (option_and_then of_json crs) ≡ option_and_then of_json crs)

object_present : (o : Option Members) → present (option_map object o) ≡ option_map object o
object_present None = refl
object_present (Some ms) = refl

pub objects_present : (j : Json) → is_object j ≡ true → IsPresent (Some j)
objects_present json.null h = absurd cc
objects_present (json.boolean b) h = absurd cc
objects_present (json.number s) h = absurd cc
objects_present (json.string s) h = absurd cc
objects_present (json.array js) h = absurd cc
objects_present (json.object ms) h = (refl, object_present (of_members ms no_members))

pub crs_ready : (c : WrittenCrs) → is_written c ≡ true → IsWritable (crs_of c) × IsPresent (crs_of c)
crs_ready crs.Absent h = (tt, (refl, refl))
crs_ready (crs.Text s) h = ((tt, omega arith, (string s.now, refl)), (refl, refl))
crs_ready (crs.Json s) h = let text = projjson_text s.now h in (text.1, objects_present (json_in s.now) text.2)

pub crs_is : (c : WrittenCrs) → is_written c ≡ true → (d : Data) × IsCrs c d
crs_is crs.Absent h = (null, refl)
crs_is (crs.Text s) h = (string s.now, refl)
crs_is (crs.Json s) h = let next = alone (next_value 126 (tokens s.now)) h in (next.0, next.1)

crs_spelled : (c : WrittenCrs) → is_written c ≡ true → crs_tokens c ≡ json_tokens (or_null (crs_of c))
crs_spelled crs.Absent h = refl
crs_spelled (crs.Text s) h = refl
crs_spelled (crs.Json s) h = (projjson_text s.now h).0

-- ---- the text

-- the tokens of the metadata are those of the object
as_tokens : (j : Json) (t : Option CrsType) (e : Option Edges)
    → metadata_tokens (json_tokens j) t e
    ≡ json_tokens (json.object (json.member (codes "crs") j (with_text (codes "crs_type") (option_map crs_type_text t) (with_text (codes "edges") (option_map edges_text e) json.no_members))))
as_tokens j None None = refl
as_tokens j None (Some e) = refl
as_tokens j (Some t) None = refl
as_tokens j (Some t) (Some e) = refl

pub object_written : (n : NewColumn) → is_written n.crs ≡ true → print (metadata_tokens (crs_tokens n.crs) n.crs_type n.edges) ≡ print (json_tokens (metadata_object (metadata_of n)))
object_written n h = ap (λ ts. print (metadata_tokens ts n.crs_type n.edges)) (crs_spelled n.crs h) ∙ ap print (as_tokens (or_null (crs_of n.crs)) n.crs_type n.edges)
