-- When what a file says of its geometry columns is sound: no two of its sources contradict (docs/FORMAT.md, 5).
use Rattle.std.specs.Prelude.{◌≡◌, true, false, List, [], All, Option, None, Some, codes}
use Rattle.std.specs.Str.{IsUtf8}
use Rattle.json.specs.Json.{Json}
use Rattle.json.specs.Find.{get}
use Rattle.value_tokens.specs.Values.{is_object}
use Rattle.arrow_values.specs.Tree.{Text}
use Rattle.arrow_columns.specs.Types.{ColumnTree}
use Rattle.arrow_columns.specs.Names.{first_of, is_one}
use Rattle.column_check.specs.Severities.{is_error_of}
use Rattle.crs_identity.specs.Verdicts.{Claimed, crs_verdict}
use Rattle.crs_identity.specs.declared.verdict.Verdict.TheVariants.{Contradict}
use Rattle.geoparquet.specs.Codes.{severity_of}
use Rattle.geoparquet.specs.Contradictions.{element_encoding, field_encoding, layout_encoding, element_metadata, own_metadata, element_edges, field_edges, said_edges}
use Rattle.geoparquet.specs.CrsClaims.{element_json, field_json, element_crs, own_crs_in, said_crs}
use Rattle.geoparquet.specs.Extensions.{IsJson}
use Rattle.geoparquet.specs.Findings.{Finding}
use Rattle.geoparquet.specs.GeoFindings.{AreGeoFindings, has_primary}
use Rattle.geoparquet.specs.Ordered.{are_some, columns_of, has_member}
use Rattle.geoparquet.specs.Sources.{Source, unasked, missing, value, Element, element_named, with_elements}
use Rattle.geoparquet.specs.declared.finding.Version.{Version}

-- no finding is an error
abbrev pub HasNoError : List Finding → Type 0
HasNoError fs = All (λ f. is_error_of (severity_of f.code) ≡ false) fs

-- two texts, where both are said, are one
abbrev pub AreOne : Option Text → Option Text → Type 0
AreOne None b = Unit {0}
AreOne (Some a) None = Unit {0}
AreOne (Some a) (Some b) = a ≡ b

-- two CRSs, where both are said, do not contradict
abbrev pub DoNotContradict : Option Claimed → Option Claimed → Type 0
DoNotContradict None b = Unit {0}
DoNotContradict (Some a) None = Unit {0}
DoNotContradict (Some a) (Some b) = ¬ (crs_verdict a b ≡ Contradict)

-- each two of the texts, and of the CRSs, that the element, the field and `geo` say
abbrev pub AreAllOne : Option Text → Option Text → Option Text → Type 0
AreAllOne element field said = AreOne element said × AreOne element field × AreOne field said

abbrev pub NoneContradicts : Option Claimed → Option Claimed → Option Claimed → Type 0
NoneContradicts element field said = DoNotContradict element said × DoNotContradict element field × DoNotContradict field said

-- the three sources of a column go together: its element, its field, and the encoding, the CRS and the edges that `geo` says
pub record GoesTogether (e : Option Element) (c : Option ColumnTree) (encoding : Option Text) (crs : Option Claimed) (edges : Option Text) : Type 0 where
  pub encodings : AreAllOne (element_encoding e) (field_encoding e c) encoding
  pub crss : NoneContradicts (element_crs e (element_json e c)) (own_crs_in (field_json e c)) crs
  pub edges_said : AreAllOne (element_edges e (element_metadata e c)) (field_edges e (own_metadata c)) edges

-- a member of `columns` is an object, of one column and no other, and goes together with the element and the field of that
pub record IsSoundMember (cs : List ColumnTree) (xs : List (ColumnTree × Option Element)) (version : Version) (m : Text × Json) : Type 0 where
  pub object : is_object m.1 ≡ true
  pub column : is_one cs m.0 ≡ true
  pub together : GoesTogether (element_named xs m.0) (first_of cs m.0) (layout_encoding version (first_of cs m.0) (element_named xs m.0) m.1)
      (said_crs version (get (codes "crs") m.1)) (said_edges version (get (codes "edges") m.1))

-- the element and the field of a column that has no member go together
abbrev pub IsSoundAlone : List (Text × Json) → ColumnTree × Option Element → Type 0
IsSoundAlone ms x = has_member x.0.name ms ≡ false → GoesTogether x.1 (Some x.0) None None None

-- a text is JSON: an object whose `columns` have members, of which `primary_column` names one, each of them is sound, and so is each column without one
pub record IsSoundText (text : Text) (cs : List ColumnTree) (xs : List (ColumnTree × Option Element)) (version : Version) (j : Json) : Type 0 where
  pub json : IsJson text j
  pub object : is_object j ≡ true
  pub columns : are_some (columns_of j) ≡ true
  pub primary : has_primary j ≡ true
  pub members : All (IsSoundMember cs xs version) (columns_of j)
  pub others : All (IsSoundAlone (columns_of j)) xs

-- what a file has at the key `geo` is sound: a value is such a text; and where there is none, each column is sound without a member
abbrev pub IsSoundSource : Source → List ColumnTree → List (ColumnTree × Option Element) → Version → Type 0
IsSoundSource unasked cs xs version = All (IsSoundAlone []) xs
IsSoundSource missing cs xs version = All (IsSoundAlone []) xs
IsSoundSource (value bytes) cs xs version = IsUtf8 bytes × ((j : Json) × IsSoundText bytes cs xs version j)

abbrev pub IsSound : Source → List ColumnTree → List Element → Version → Type 0
IsSound geo cs es version = IsSoundSource geo cs (with_elements cs es) version

-- where what is found has no error, the columns are sound
abbrev pub IsSoundWithoutErrors : Type 0
IsSoundWithoutErrors = (geo : Source) (cs : List ColumnTree) (es : List Element) (version : Version) (fs : List Finding)
    → AreGeoFindings geo cs es version fs → HasNoError fs → IsSound geo cs es version
