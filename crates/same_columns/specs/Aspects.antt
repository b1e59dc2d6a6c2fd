-- In what two columns of one name differ.
use Rattle.std.specs.Prelude.{◌≡◌, ◌↔◌, ◌&&◌, Bool, true, false, IsTrue, bytes_eq, codes, List, [], ◌∷◌, ◌++◌, Option, None, Some, if◌then◌else◌}
use Rattle.json.specs.Json.{Json, string}
use Rattle.arrow_values.specs.Tree.{Text}
use Rattle.arrow_columns.specs.Types.{TypeTree, known}
use Rattle.arrow_columns.specs.Notation.{type_text}
use Rattle.crs_identity.specs.Forms.{Said, unknown, value, srid}
use Rattle.crs_identity.specs.Verdicts.{Claimed, crs_verdict}
use Rattle.crs_identity.specs.declared.verdict.Verdict.{Verdict}
use Rattle.crs_identity.specs.declared.verdict.Verdict.TheVariants.{Agree, Contradict, NotCompared}
use Rattle.geoarrow_layout.specs.Alike.{Alike}
use Rattle.geoparquet.specs.Facts.{CrsOf, FactsOf}
use Rattle.geoparquet.specs.Identifiers.{default_identifier}
use Rattle.geoparquet.specs.declared.fact_sources.FactSource.{FactSource}
use Rattle.geoparquet.specs.declared.fact_sources.FactSource.TheVariants.{Element, Geo, Field}
use Rattle.same_columns.specs.Compared.{Compared, are_geometries, edges_word, encoding_word}
use Rattle.same_columns.specs.declared.difference.Aspect.{Aspect}
use Rattle.same_columns.specs.declared.difference.Aspect.TheVariants as in_what

-- ---- the types: of geometries the data types are alike; any others have one notation

abbrev pub AreOneType : Bool → TypeTree → TypeTree → Type 0
AreOneType true (known t) (known u) = Alike t u
AreOneType both t u = IsTrue (bytes_eq (type_text t) (type_text u))

abbrev pub HaveOneType : Compared → Compared → Type 0
HaveOneType a b = AreOneType (are_geometries a b) a.column.data_type b.column.data_type

-- ---- the CRS

-- the value of a CRS, by its type; null is a CRS that is not known
abbrev pub is_srid : Option Text → Bool
is_srid (Some s) = bytes_eq s (codes "srid")
is_srid None = false

abbrev pub said_by : Option Text → Option Json → Said
said_by crs_type None = unknown
said_by crs_type (Some j) = if is_srid crs_type then srid j else value j

-- whether it is the format's default: the CRS of that, from an element or a member
abbrev pub has_default : FactSource → Bool
has_default Element = true
has_default Geo = true
has_default Field = false

abbrev pub is_code : Option Text → Bool
is_code (Some s) = bytes_eq s (codes "authority_code")
is_code None = false

abbrev pub is_default_value : Option Json → Bool
is_default_value (Some (string s)) = bytes_eq s default_identifier
is_default_value crs = false

abbrev pub is_default : CrsOf → Bool
is_default f = has_default f.from && (is_code f.crs_type && is_default_value f.crs)

abbrev pub claimed : CrsOf → Claimed
claimed f = record { crs = said_by f.crs_type f.crs; is_default = is_default f }

-- the column has the CRS that a text says: both agree
abbrev pub is_agreed : Verdict → Bool
is_agreed Agree = true
is_agreed verdict = false

abbrev pub said_in : Text → Claimed
said_in text = record { crs = value (string text); is_default = false }

abbrev pub is_of_crs : CrsOf → Text → Bool
is_of_crs f text = is_agreed (crs_verdict (claimed f) (said_in text))

-- the verdict on both: where one says a CRS, and the other none, nothing decides
abbrev pub crs_between : Option CrsOf → Option CrsOf → Verdict
crs_between None None = Agree
crs_between (Some f) (Some g) = crs_verdict (claimed f) (claimed g)
crs_between _ _ = NotCompared

abbrev pub crs_aspects : Verdict → List Aspect
crs_aspects Agree = []
crs_aspects Contradict = in_what.Crs ∷ []
crs_aspects NotCompared = in_what.CrsNotCompared ∷ []

-- ---- all

abbrev pub unless : Bool → Aspect → List Aspect
unless same aspect = if same then [] else aspect ∷ []

-- edges and CRS, where both are geometries
abbrev pub fact_aspects : Option FactsOf → Option FactsOf → List Aspect
fact_aspects (Some f) (Some g) = unless (bytes_eq (edges_word f) (edges_word g)) in_what.Edges ++ crs_aspects (crs_between f.crs g.crs)
fact_aspects _ _ = []

-- of which it is known whether they have one type
abbrev pub aspects : Bool → Compared → Compared → List Aspect
aspects same a b =
    unless same in_what.DataType
    ++ unless (bytes_eq (encoding_word a.column) (encoding_word b.column)) in_what.Encoding
    ++ fact_aspects a.facts b.facts

abbrev pub AreAspects : Compared → Compared → List Aspect → Type 0
AreAspects a b ts = (same : Bool) × (IsTrue same ↔ HaveOneType a b) × (ts ≡ aspects same a b)
