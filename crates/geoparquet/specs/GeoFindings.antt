-- What is found of the metadata at the key `geo`, against the columns of a file (docs/FORMAT.md, 5).
use Rattle.std.specs.Prelude.{◌≡◌, ◌⊎◌, ◌||◌, Bool, false, not, List, [], ◌∷◌, ◌++◌, codes, Option, None, Some, is_some, flat_map, option_and_then, if◌then◌else◌}
use Rattle.std.specs.Str.{IsUtf8}
use Rattle.json.specs.Json.{Json, string}
use Rattle.json.specs.Find.{get, as_str}
use Rattle.serde_json.specs.Read.{read}
use Rattle.value_tokens.specs.Values.{IsReadable, is_object}
use Rattle.arrow_values.specs.Tree.{Text}
use Rattle.arrow_columns.specs.Types.{ColumnTree}
use Rattle.arrow_columns.specs.Names.{first_of, is_one}
use Rattle.geoparquet.specs.Findings.{Finding, shown}
use Rattle.geoparquet.specs.Sources.{Source, unasked, missing, value, Element, element_named, with_elements}
use Rattle.geoparquet.specs.Spelled.{spelled}
use Rattle.geoparquet.specs.Rules.{column_place, found_at, unless}
use Rattle.geoparquet.specs.Versions.{version_of, version_findings}
use Rattle.geoparquet.specs.MemberRules.{encoding_findings, crs_findings, edges_findings, orientation_findings, epoch_findings}
use Rattle.geoparquet.specs.TypeRules.{types_findings, types_version_findings}
use Rattle.geoparquet.specs.BoxRules as box
use Rattle.geoparquet.specs.BoxRange.{bbox_range_findings}
use Rattle.geoparquet.specs.Counting.{edges_on_projected_findings, own_on_projected_findings}
use Rattle.geoparquet.specs.CoveringAbsent.{covering_absent_findings}
use Rattle.geoparquet.specs.Coverings.{covering_findings}
use Rattle.geoparquet.specs.Contradictions.{layout_findings, types_contradict_findings, encodings_findings, encoding_contradicts_findings, edges_claims_findings, edges_contradict_findings}
use Rattle.geoparquet.specs.Malformed.{malformed_findings}
use Rattle.geoparquet.specs.RepeatedKeys.{repeated_findings}
use Rattle.geoparquet.specs.CrsClaims.{crs_claims_findings, crs_contradicts_findings}
use Rattle.geoparquet.specs.Undeclared.{undeclared_findings, no_metadata_findings}
use Rattle.geoparquet.specs.Ordered.{are_some, columns_of, has_member}
use Rattle.geoparquet.specs.Extensions.{IsJson}
use Rattle.geoparquet.specs.declared.code.GeoCode.{GeoCode}
use Rattle.geoparquet.specs.declared.code.GeoCode.TheVariants.{NotJson, NotObject, Columns, ColumnMissing, ColumnRepeated, Member, PrimaryColumn}
use Rattle.geoparquet.specs.declared.fact_sources.FactSource.TheVariants.{Geo}
use Rattle.geoparquet.specs.declared.finding.Version.{Version}
use Rattle.geoparquet.specs.declared.finding.Version.TheVariants.{V1_1}
use Rattle.geoparquet.specs.declared.source.Unread.{Unread}
use Rattle.geoparquet.specs.declared.source.Unread.TheVariants.{Unasked, Missing, NoUtf8, NoJson}

-- ---- of all the metadata

-- `columns`: an object with a member at least
abbrev pub columns_findings : Json → List Finding
columns_findings j =
    unless (are_some (columns_of j)) (found_at Columns None (codes "/columns") (get (codes "columns") j) None)

-- `primary_column`: a text, and a key of `columns`, if that has members
abbrev pub is_primary : List (Text × Json) → Option Text → Bool
is_primary ms None = false
is_primary ms (Some key) = not (are_some ms) || has_member key ms

abbrev pub has_primary : Json → Bool
has_primary j = is_primary (columns_of j) (option_and_then as_str (get (codes "primary_column") j))

abbrev pub primary_findings : Json → List Finding
primary_findings j =
    unless (has_primary j) (found_at PrimaryColumn None (codes "/primary_column") (get (codes "primary_column") j) None)

-- ---- of a member of `columns`, by its key

abbrev pub key_finding : GeoCode → Text → Json → Finding
key_finding code key j = found_at code (Some key) (column_place key) (Some j) None

-- a key that is the name of no column, or of several
abbrev pub name_finding : GeoCode → Text → Finding
name_finding code key = found_at code (Some key) (column_place key) (Some (string key)) None

-- a key: the name of one column
abbrev pub key_findings : List ColumnTree → Text → List Finding
key_findings cs key =
    if is_some (first_of cs key) then unless (is_one cs key) (name_finding ColumnRepeated key)
    else name_finding ColumnMissing key ∷ []

-- how the geometries are stored
abbrev pub storage_findings : Version → Text → Option ColumnTree → Option Element → Json → List Finding
storage_findings version key c e j =
    encoding_findings version key j
    ++ layout_findings version key c e j
    ++ (types_findings version key j ++ types_version_findings version key j)
    ++ types_contradict_findings version key c e j

-- what is said of them
abbrev pub fact_findings : Version → Text → Json → List Finding
fact_findings version key j =
    crs_findings version key j
    ++ malformed_findings version key j
    ++ edges_findings version key j
    ++ orientation_findings version key j
    ++ epoch_findings version key j

abbrev pub box_findings : Version → Text → Option ColumnTree → Option Element → Json → List Finding
box_findings version key c e j =
    box.bbox_findings version key j
    ++ box.bbox_order_findings version key c e j
    ++ bbox_range_findings version key c e j
    ++ box.bbox_dimension_findings version key j

-- what the element, the field and the member say of one fact
abbrev pub claim_findings : Version → Text → Option ColumnTree → Option Element → Json → List Finding
claim_findings version key c e j =
    encoding_contradicts_findings version key c e j
    ++ crs_contradicts_findings version key c e j
    ++ edges_contradict_findings version key c e j
    ++ edges_on_projected_findings version key c e j

-- against other columns
abbrev pub covered_findings : List ColumnTree → Version → Text → Option ColumnTree → Json → List Finding
covered_findings cs version key c j =
    covering_findings cs version key c j
    ++ covering_absent_findings cs version key c j

abbrev pub part_findings : List ColumnTree → Version → Text → Option ColumnTree → Option Element → Json → List Finding
part_findings cs version key c e j =
    storage_findings version key c e j
    ++ fact_findings version key j
    ++ box_findings version key c e j
    ++ covered_findings cs version key c j
    ++ claim_findings version key c e j

-- what the element and the field say of one fact, without a member
unfoldable pub own_findings : Text → Option ColumnTree → Option Element → List Finding
own_findings key c e =
    encodings_findings key c e None
    ++ crs_claims_findings key None c e None
    ++ edges_claims_findings key None c e None
    ++ own_on_projected_findings key c e

-- of the value of a key, by a column of that name, if there is one
abbrev pub value_findings : List ColumnTree → Version → Text → Option ColumnTree → Option Element → Json → List Finding
value_findings cs version key c e j =
    if is_object j then part_findings cs version key c e j
    else (key_finding Member key j ∷ []) ++ own_findings key c e

-- the rules of a column are judged of the first column of that name
abbrev pub member_findings : List ColumnTree → List (ColumnTree × Option Element) → Version → Text × Json → List Finding
member_findings cs xs version m =
    key_findings cs m.0 ++ value_findings cs version m.0 (first_of cs m.0) (element_named xs m.0) m.1

abbrev pub members_findings : List ColumnTree → List (ColumnTree × Option Element) → Version → List (Text × Json) → List Finding
members_findings cs xs version ms = flat_map (member_findings cs xs version) ms

-- of a column that has no member
abbrev pub column_alone_findings : List (Text × Json) → ColumnTree × Option Element → List Finding
column_alone_findings ms x = if has_member x.0.name ms then [] else own_findings x.0.name (Some x.0) x.1

abbrev pub alone_findings : List (Text × Json) → List (ColumnTree × Option Element) → List Finding
alone_findings ms xs = flat_map (column_alone_findings ms) xs

-- ---- of the whole

-- columns that lack a member are found where `columns` has members
abbrev pub missing_findings : List (ColumnTree × Option Element) → Json → List Finding
missing_findings xs j =
    if are_some (columns_of j) then undeclared_findings (columns_of j) xs else []

abbrev pub object_findings : List ColumnTree → List (ColumnTree × Option Element) → Json → List Finding
object_findings cs xs j =
    version_findings j
    ++ columns_findings j
    ++ primary_findings j
    ++ members_findings cs xs (version_of j) (columns_of j)
    ++ missing_findings xs j

-- of a value: of keys that stand several times, of all of it, of each member of `columns` in the ascending order of keys, of columns that lack a member
abbrev pub json_findings : List ColumnTree → List (ColumnTree × Option Element) → Json → List Finding
json_findings cs xs j =
    if is_object j then repeated_findings j ++ object_findings cs xs j else found_at NotObject None [] (Some j) None ∷ []

-- what is found of a JSON value; and of columns that have no member
abbrev pub geo_findings : List ColumnTree → List (ColumnTree × Option Element) → Json → List Finding
geo_findings cs xs j = json_findings cs xs j ++ alone_findings (columns_of j) xs

-- what is found of a value that is no JSON, as it is shown
abbrev pub unread_finding : Text → Finding
unread_finding text = record { code = NotJson; column = None; source = Geo; pointer = []; found = Some (shown text); wanted = None; more = 0 }

-- the version and the findings are those of the text: of the value that it is, where it is JSON
abbrev pub AreTextFindings : Text → List ColumnTree → List (ColumnTree × Option Element) → Version → List Finding → Type 0
AreTextFindings geo cs xs version fs =
    ((read geo ≡ None) × (version ≡ V1_1) × (fs ≡ unread_finding geo ∷ alone_findings [] xs))
    ⊎ ((j : Json) × IsJson geo j × (version ≡ version_of j) × (fs ≡ geo_findings cs xs j))

-- those of a value, by its bytes: of the text that they are, where they are UTF-8
abbrev pub AreValueFindings : Text → List ColumnTree → List (ColumnTree × Option Element) → Version → List Finding → Type 0
AreValueFindings bytes cs xs version fs =
    (IsUtf8 bytes × AreTextFindings bytes cs xs version fs)
    ⊎ ((¬ IsUtf8 bytes) × (version ≡ V1_1) × (fs ≡ unread_finding (spelled bytes) ∷ alone_findings [] xs))

-- those of what a file has at the key `geo`
abbrev pub AreSourceFindings : Source → List ColumnTree → List (ColumnTree × Option Element) → Version → List Finding → Type 0
AreSourceFindings unasked cs xs version fs = (version ≡ V1_1) × (fs ≡ alone_findings [] xs)
AreSourceFindings missing cs xs version fs = (version ≡ V1_1) × (fs ≡ no_metadata_findings xs ++ alone_findings [] xs)
AreSourceFindings (value bytes) cs xs version fs = AreValueFindings bytes cs xs version fs

-- the version and the findings are those of what a file has at the key `geo`, with these columns, beside which the elements say that
abbrev pub AreGeoFindings : Source → List ColumnTree → List Element → Version → List Finding → Type 0
AreGeoFindings geo cs es version fs = AreSourceFindings geo cs (with_elements cs es) version fs

-- ---- for private contracts

-- what is found where there is no JSON, beside what is found of columns
abbrev pub unread_findings : Unread → List (ColumnTree × Option Element) → List Finding
unread_findings Unasked xs = []
unread_findings Missing xs = no_metadata_findings xs
unread_findings (NoUtf8 bytes) xs = unread_finding (spelled bytes.now) ∷ []
unread_findings (NoJson text) xs = unread_finding text.now ∷ []

abbrev pub AreRead : List (Text × Json) → Type 0
AreRead [] = Unit {0}
AreRead (m ∷ ms) = IsReadable m.1 × AreRead ms
