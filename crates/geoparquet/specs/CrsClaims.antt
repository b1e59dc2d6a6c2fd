-- What the element, the field and `crs` say of the CRS (docs/FORMAT.md, 5.1 and 5.3).
use Rattle.std.specs.Prelude.{◌||◌, Bool, true, false, List, [], codes, bytes_eq, Option, None, Some, option_and_then, option_map, if◌then◌else◌}
use Rattle.json.specs.Json.{Json, null, string, object}
use Rattle.json.specs.Find.{get, as_str}
use Rattle.arrow_values.specs.Tree.{Text}
use Rattle.arrow_columns.specs.Types.{ColumnTree}
use Rattle.crs_identity.specs.Forms.{Said, unknown, value, srid, json_in}
use Rattle.crs_identity.specs.Verdicts.{Claimed, crs_verdict}
use Rattle.crs_identity.specs.declared.verdict.Verdict.{Verdict}
use Rattle.crs_identity.specs.declared.verdict.Verdict.TheVariants.{Agree, Contradict, NotCompared}
use Rattle.geoparquet.specs.Contradictions.{geo_metadata}
use Rattle.geoparquet.specs.Findings.{Finding, shown_value}
use Rattle.geoparquet.specs.Identifiers.{default_identifier}
use Rattle.geoparquet.specs.Malformed.{is_malformed, is_projjson}
use Rattle.geoparquet.specs.Pairs.{by_default, first_pair, pair_findings}
use Rattle.geoparquet.specs.Sources.{Claim, silent, gives, beside, Element}
use Rattle.geoparquet.specs.Versions.{is_judged}
use Rattle.geoparquet.specs.declared.code.GeoCode.TheVariants.{CrsContradicts, CrsNotCompared}
use Rattle.geoparquet.specs.declared.finding.Version.{Version}
use Rattle.geoparquet.specs.declared.pairs.Pair.{Pair}

-- a CRS that is said, and the format's default
abbrev pub claimed : Said → Claimed
claimed s = record { crs = s; is_default = false }

abbrev pub default_claim : Claimed
default_claim = record { crs = value (string default_identifier); is_default = true }

-- where `crs` is absent: the default, but before 1.0.0 nothing
abbrev pub absent_crs : Version → Option Claimed
absent_crs version = if is_judged version then Some default_claim else None

-- a text is a CRS before 1.0.0 alone
abbrev pub text_crs : Version → Json → Option Claimed
text_crs version j = if is_judged version then None else Some (claimed (value j))

-- an object is a CRS; but from 1.0.0 on only PROJJSON is
abbrev pub projjson_crs : Json → Option Claimed
projjson_crs j = if is_projjson j then Some (claimed (value j)) else None

abbrev pub object_crs : Version → Json → Option Claimed
object_crs version j = if is_judged version then projjson_crs j else Some (claimed (value j))

-- the CRS that a member says: none known where it is null; a value that is no CRS of the version says nothing
abbrev pub said_crs : Version → Option Json → Option Claimed
said_crs version None = absent_crs version
said_crs version (Some null) = Some (claimed unknown)
said_crs version (Some (object ms)) = object_crs version (object ms)
said_crs version (Some (string s)) = text_crs version (string s)
said_crs version (Some j) = None

-- the extension metadata of a column, as JSON: under an extension name that says an encoding
abbrev pub own_json : Option ColumnTree → Option Json
own_json None = None
own_json (Some c) = option_and_then json_in (geo_metadata c)

-- whether `crs_type` says that the CRS is an opaque number
abbrev pub is_srid : Option Text → Bool
is_srid None = false
is_srid (Some s) = bytes_eq s (codes "srid")

abbrev pub typed_crs : Bool → Json → Claimed
typed_crs opaque j = claimed (if opaque then srid j else value j)

-- what is to be PROJJSON: the value itself, or the value that a text is where `crs_type` says so
abbrev pub is_projjson_type : Option Text → Bool
is_projjson_type None = false
is_projjson_type (Some s) = bytes_eq s (codes "projjson")

abbrev pub judged_in : Bool → Json → Option Json
judged_in typed (string s) = if typed then json_in s else None
judged_in typed j = Some j

abbrev pub is_broken_by : Bool → Option Json → Bool
is_broken_by typed None = false
is_broken_by typed (Some j) = is_malformed (judged_in typed j)

-- whether the CRS of extension metadata is an object that is no PROJJSON, of which `CrsMalformed` is found (docs/FORMAT.md, 5.3)
abbrev pub is_broken : Json → Bool
is_broken j = is_broken_by (is_projjson_type (option_and_then as_str (get (codes "crs_type") j))) (get (codes "crs") j)

-- the CRS that extension metadata say; null and the empty text say nothing
abbrev pub crs_under : Bool → Option Json → Option Claimed
crs_under opaque None = None
crs_under opaque (Some null) = None
crs_under opaque (Some (string [])) = None
crs_under opaque (Some j) = Some (typed_crs opaque j)

abbrev pub own_crs : Json → Option Claimed
own_crs j = crs_under (is_srid (option_and_then as_str (get (codes "crs_type") j))) (get (codes "crs") j)

-- one that is broken says nothing
abbrev pub whole_crs : Json → Option Claimed
whole_crs j = if is_broken j then None else own_crs j

abbrev pub own_crs_in : Option Json → Option Claimed
own_crs_in None = None
own_crs_in (Some j) = whole_crs j

-- ---- what an element and a field say

-- the extension metadata of an element: those of its column, or those beside
abbrev pub claimed_json : Claim → Option ColumnTree → Option Json
claimed_json silent c = None
claimed_json (gives names_crs edges) c = own_json c
claimed_json (beside s edges) c = json_in s

abbrev pub element_json : Option Element → Option ColumnTree → Option Json
element_json None c = None
element_json (Some e) c = claimed_json e.claim c

-- those of a field: none where its column has them from the element
abbrev pub json_beside : Claim → Option ColumnTree → Option Json
json_beside silent c = own_json c
json_beside (gives names_crs edges) c = None
json_beside (beside s edges) c = own_json c

abbrev pub field_json : Option Element → Option ColumnTree → Option Json
field_json None c = own_json c
field_json (Some e) c = json_beside e.claim c

-- whether an element denotes null: it names a key that has no PROJJSON, of which `CrsKeyMissing` is found (docs/FORMAT.md, 4.6)
abbrev pub is_null : Option Json → Bool
is_null (Some null) = true
is_null found = false

-- the CRS that an element says, if it is of a geometry type: the default where it names none, and nothing where it is broken
abbrev pub or_default : Option Claimed → Option Claimed
or_default None = Some default_claim
or_default (Some c) = Some c

abbrev pub named_crs : Option Json → Option Claimed
named_crs None = Some default_claim
named_crs (Some j) = if is_null (get (codes "crs") j) || is_broken j then None else or_default (own_crs j)

abbrev pub claimed_crs : Claim → Option Json → Option Claimed
claimed_crs silent own = None
claimed_crs (gives false edges) own = Some default_claim
claimed_crs (gives true edges) own = named_crs own
claimed_crs (beside s edges) own = named_crs own

abbrev pub element_crs : Option Element → Option Json → Option Claimed
element_crs None own = None
element_crs (Some e) own = claimed_crs e.claim own

-- ---- findings

-- the value at `crs` of extension metadata
abbrev pub crs_at : Option Json → Option Json
crs_at None = None
crs_at (Some j) = get (codes "crs") j

-- as a finding shows it
abbrev pub own_shown : Option Json → Option Text
own_shown own = option_map shown_value (crs_at own)

-- and as it shows the CRS that an element or a member says, by the value at `crs`
abbrev pub claim_shown : Option Claimed → Option Json → Option Text
claim_shown None found = None
claim_shown (Some c) found = if c.is_default then Some (by_default default_identifier) else option_map shown_value found

-- what is said of two sources: nothing where one of them says none
abbrev pub pair_verdict : Option Claimed → Option Claimed → Verdict
pair_verdict None b = Agree
pair_verdict (Some a) None = Agree
pair_verdict (Some a) (Some b) = crs_verdict a b

abbrev pub is_contradict : Verdict → Bool
is_contradict Agree = false
is_contradict Contradict = true
is_contradict NotCompared = false

abbrev pub is_not_compared : Verdict → Bool
is_not_compared Agree = false
is_not_compared Contradict = false
is_not_compared NotCompared = true

-- the first pair that contradicts; and if none does, the first that is not compared
abbrev pub verdict_findings : Text → Option Text → Option Text → Option Text → Option Pair → Option Pair → List Finding
verdict_findings key found element own None not_compared =
    pair_findings CrsNotCompared key (codes "crs") found element own own not_compared
verdict_findings key found element own (Some pair) not_compared =
    pair_findings CrsContradicts key (codes "crs") found element own own (Some pair)

abbrev pub verdicts_findings : Text → Option Text → Option Text → Option Text → Verdict → Verdict → Verdict → List Finding
verdicts_findings key found element own eg ea ag =
    verdict_findings key found element own
    (first_pair (is_contradict eg) (is_contradict ea) (is_contradict ag))
    (first_pair (is_not_compared eg) (is_not_compared ea) (is_not_compared ag))

-- by the claims of the element, of the field and of `geo`
abbrev pub three_findings : Text → Option Json → Option Text → Option Json → Option Claimed → Option Claimed → Option Claimed → List Finding
three_findings key found shown own element field said =
    verdicts_findings key (claim_shown said found) shown (own_shown own)
    (pair_verdict element said) (pair_verdict element field) (pair_verdict field said)

-- by the claims of the element and of `geo`, and the metadata of the element and of the field
abbrev pub claimed_findings : Text → Option Json → Option Claimed → Option Json → Option Json → Option Claimed → List Finding
claimed_findings key found claimed element field said =
    three_findings key found (claim_shown claimed (crs_at element)) field claimed (own_crs_in field) said

-- by the metadata of the element and of the field
abbrev pub crs_json_findings : Text → Option Json → Option Element → Option Json → Option Json → Option Claimed → List Finding
crs_json_findings key found e element field said =
    claimed_findings key found (element_crs e element) element field said

-- two of the element, the field and `crs` say two CRSs, or it is not known whether they are one
abbrev pub crs_claims_findings : Text → Option Json → Option ColumnTree → Option Element → Option Claimed → List Finding
crs_claims_findings key found c e said = crs_json_findings key found e (element_json e c) (field_json e c) said

abbrev pub crs_contradicts_findings : Version → Text → Option ColumnTree → Option Element → Json → List Finding
crs_contradicts_findings version key c e j =
    crs_claims_findings key (get (codes "crs") j) c e (said_crs version (get (codes "crs") j))
