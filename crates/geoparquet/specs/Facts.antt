-- The facts of a column: of its CRS, its edges and its encoding what counts, by which source, and what the others say against it (docs/FORMAT.md, 5).
use Rattle.std.specs.Prelude.{Bool, true, false, not, List, [], ◌∷◌, ◌++◌, codes, string_bytes, Option, None, Some, is_some, option_and_then, option_map, unwrap_or, if◌then◌else◌}
use Rattle.json.specs.Json.{Json, null, string}
use Rattle.json.specs.Find.{get, as_str}
use Rattle.serde_json.specs.Data.{Data}
use Rattle.value_tokens.specs.Values.{is_object}
use Rattle.arrow_values.specs.Tree.{Text}
use Rattle.arrow_columns.specs.Types.{ColumnTree}
use Rattle.crs_identity.specs.Verdicts.{Claimed, crs_verdict}
use Rattle.geoparquet.specs.Contradictions.{element_encoding, element_metadata, field_encoding, layout_encoding, own_metadata}
use Rattle.geoparquet.specs.CrsClaims.{crs_at, element_crs, element_json, field_json, own_crs_in, said_crs}
pub use Rattle.geoparquet.specs.Contradictions.{are_absent}
pub use Rattle.geoparquet.specs.EdgesClaims.{EdgesOf, edges_claims, edges_defaults, edges_fact_in, edges_fact_of, edges_from, edges_view, has_no_edges, is_default_if, member_edges}
use Rattle.geoparquet.specs.FactSources.{BySource, against, of_source, source_counting, text_verdict}
use Rattle.geoparquet.specs.GeoColumns.{left_for}
use Rattle.geoparquet.specs.MemberRules.{encoding_of}
use Rattle.geoparquet.specs.StrictLayouts.{is_laid_out}
use Rattle.geoparquet.specs.MemberFacts.{SaidOf, member_facts, member_facts_view}
use Rattle.geoparquet.specs.Identifiers.{default_identifier}
use Rattle.geoparquet.specs.Ordered.{columns_of}
use Rattle.geoparquet.specs.Sources.{Element, Source, geo_json, with_elements}
use Rattle.geoparquet.specs.Undeclared.{is_covered}
use Rattle.geoparquet.specs.Versions.{version_of}
use Rattle.geoparquet.specs.declared.fact_sources.Against.{Against}
use Rattle.geoparquet.specs.declared.fact_sources.FactSource.{FactSource}
use Rattle.geoparquet.specs.declared.fact_sources.FactSource.TheVariants as of
use Rattle.geoparquet.specs.declared.crs_facts.CrsFact.{CrsFact}
use Rattle.geoparquet.specs.declared.text_facts.EncodingFact.{EncodingFact}
use Rattle.geoparquet.specs.declared.facts.ColumnFacts.{ColumnFacts}
use Rattle.geoparquet.specs.declared.finding.Version.{Version}

-- ---- the facts as values

-- the CRS: by which source, its value, which is none where the CRS is not known, and its type
pub record CrsOf : Type 0 where
  pub from : FactSource
  pub crs : Option Json
  pub crs_type : Option Text
  pub against : Against

pub record FactsOf : Type 0 where
  pub crs : Option CrsOf
  pub edges : Option EdgesOf
  pub encoding : Option EncodingFact
  pub layout_contradicts : Bool
  pub member : SaidOf
  -- whether a path of some covering of `columns` names the column
  pub covered : Bool

abbrev pub crs_view : CrsFact → CrsOf
crs_view f = record { from = f.from; crs = f.crs; crs_type = option_map string_bytes f.crs_type; against = f.against }

abbrev pub facts_view : ColumnFacts → FactsOf
facts_view f = record { crs = option_map crs_view f.crs; edges = option_map edges_view f.edges; encoding = f.encoding; layout_contradicts = f.layout_contradicts; member = member_facts_view f.member; covered = f.covered }

-- ---- the CRS

-- what each source says of it, where they have that JSON: the extension metadata of the element, the member, the extension metadata of the field
abbrev pub member_crs : Version → Option Json → Option Claimed
member_crs version None = None
member_crs version (Some j) = said_crs version (get (codes "crs") j)

abbrev pub crs_claims : Version → Option Element → BySource Json → BySource Claimed
crs_claims version e js =
    record { element = element_crs e js.element; geo = member_crs version js.geo; field = own_crs_in js.field }

-- whether what each says is the default
abbrev pub crs_defaults : BySource Claimed → BySource Bool
crs_defaults cs = record {
  element = option_map (λ c. c.is_default) cs.element;
  geo = option_map (λ c. c.is_default) cs.geo;
  field = option_map (λ c. c.is_default) cs.field;
}

-- the value at `crs`; null is none
abbrev pub known : Option Json → Option Json
known None = None
known (Some null) = None
known (Some j) = Some j

abbrev pub crs_value : Option Json → Option Json
crs_value found = known (crs_at found)

-- its type: of a member that of PROJJSON, which an object is; of extension metadata the text at `crs_type`
abbrev pub member_type : Option Json → Option Text
member_type None = None
member_type (Some j) = if is_object j then Some (codes "projjson") else None

abbrev pub own_type : Option Json → Option Text
own_type found = option_and_then as_str (option_and_then (get (codes "crs_type")) found)

abbrev pub crs_type_in : FactSource → BySource Json → Option Text
crs_type_in of.Element js = own_type js.element
crs_type_in of.Geo js = member_type (crs_value js.geo)
crs_type_in of.Field js = own_type js.field

-- what a source says, or that it says the default
abbrev pub crs_from : Bool → FactSource → BySource Json → Against → CrsOf
crs_from true from js verdicts =
    record { from = from; crs = Some (string default_identifier); crs_type = Some (codes "authority_code"); against = verdicts }
crs_from false from js verdicts =
    record { from = from; crs = crs_value (of_source from js); crs_type = crs_type_in from js; against = verdicts }

abbrev pub crs_by : BySource Json → BySource Claimed → FactSource → CrsOf
crs_by js cs from = crs_from (unwrap_or (of_source from (crs_defaults cs)) false) from js (against crs_verdict from cs)

abbrev pub crs_fact_of : BySource Json → BySource Claimed → Option CrsOf
crs_fact_of js cs = option_map (crs_by js cs) (source_counting (crs_defaults cs))

abbrev pub json_sources : Option Json → ColumnTree → Option Element → BySource Json
json_sources member c e = record { element = element_json e (Some c); geo = member; field = field_json e (Some c) }

abbrev pub crs_fact_in : Version → Option Element → BySource Json → Option CrsOf
crs_fact_in version e js = crs_fact_of js (crs_claims version e js)

abbrev pub crs_fact : Version → Option Json → ColumnTree → Option Element → Option CrsOf
crs_fact version member c e = crs_fact_in version e (json_sources member c e)

-- ---- the edges

abbrev pub edges_fact : Version → Option Json → ColumnTree → Option Element → Option EdgesOf
edges_fact version member c e = edges_fact_in version member e (element_metadata e (Some c)) (own_metadata (Some c))

-- ---- the encoding

-- what a member says, where the column has its layout
abbrev pub member_encoding : Version → ColumnTree → Option Element → Option Json → Option Text
member_encoding version c e None = None
member_encoding version c e (Some j) = layout_encoding version (Some c) e j

abbrev pub encodings : Version → Option Json → ColumnTree → Option Element → BySource Text
encodings version member c e =
    record { element = element_encoding e; geo = member_encoding version c e member; field = field_encoding e (Some c) }

-- that of the field, else of the member, else of the element
abbrev pub encoding_from : BySource Text → Option FactSource
encoding_from ts =
    if is_some ts.field then Some of.Field
    else if is_some ts.geo then Some of.Geo
    else if is_some ts.element then Some of.Element
    else None

abbrev pub encoding_fact_of : BySource Text → Option EncodingFact
encoding_fact_of ts = option_map (λ from. record { from = from; against = against text_verdict from ts }) (encoding_from ts)

abbrev pub encoding_fact : Version → Option Json → ColumnTree → Option Element → Option EncodingFact
encoding_fact version member c e = encoding_fact_of (encodings version member c e)

-- whether the column has another layout than that of the encoding that its member says: of it `GeoLayout` is found
abbrev pub has_other_layout : Option Text → ColumnTree → Option Element → Bool
has_other_layout None c e = false
has_other_layout (Some s) c e = not (is_laid_out s c e)

abbrev pub layout_contradicts : Version → Option Json → ColumnTree → Option Element → Bool
layout_contradicts version None c e = false
layout_contradicts version (Some j) c e = has_other_layout (encoding_of version j) c e

-- ---- of columns

-- the facts of a column, which a covering names or not, with a member of `geo`, or none, and what its element says, if it says something
abbrev pub column_facts : Version → Bool → Option Json → ColumnTree → Option Element → FactsOf
column_facts version covered member c e =
    record { crs = crs_fact version member c e; edges = edges_fact version member c e; encoding = encoding_fact version member c e; layout_contradicts = layout_contradicts version member c e; member = member_facts version member; covered = covered }

-- an object, and no other value
abbrev pub if_object : Option Json → Option Json
if_object None = None
if_object (Some j) = if is_object j then Some j else None

-- the member of the first column of a name, behind those before it
abbrev pub member_for : Json → List ColumnTree → Text → Option Json
member_for j before name = if_object (left_for j before name)

-- the facts of columns behind those, in order
abbrev pub facts_behind : Json → List ColumnTree → List (ColumnTree × Option Element) → List FactsOf
facts_behind j before [] = []
facts_behind j before (x ∷ xs) =
    column_facts (version_of j) (is_covered x.0.name (columns_of j)) (member_for j before x.0.name) x.0 x.1 ∷ facts_behind j (before ++ x.0 ∷ []) xs

-- the facts of the columns of a file that has that at the key `geo`, beside which its elements say that
abbrev pub facts_of : Source → List ColumnTree → List Element → List FactsOf
facts_of geo cs es = facts_behind (geo_json geo) [] (with_elements cs es)

-- those of a column alone, which no covering names
abbrev pub facts_alone : ColumnTree → FactsOf
facts_alone c = column_facts (version_of null) false None c None
