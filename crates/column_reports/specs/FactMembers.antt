-- The facts of geometries as members of the line of a column (docs/FORMAT.md, 2.5).
use Rattle.std.specs.Prelude.{Bool, true, false, List, [], ◌∷◌, ◌++◌, codes, Option, None, Some, option_and_then, option_map, if◌then◌else◌}
use Rattle.std.specs.Option.{option_or}
use Rattle.json.specs.Json.{Json, string}
use Rattle.arrow_values.specs.Tree.{Text}
use Rattle.geoarrow_layout.specs.declared.native_kinds.Kind.{Kind}
use Rattle.geoarrow_layout.specs.declared.native_kinds.Kind.TheVariants.{Native}
use Rattle.column_check.specs.declared.finding.Finding.{Finding as ColumnFinding}
use Rattle.column_check.specs.declared.finding.Finding.TheVariants.{Geometry}
use Rattle.column_check.specs.declared.finding.Geometry.{Geometry as GeometryColumn}
use Rattle.column_check.specs.States.{geometry_in}
use Rattle.crs_identity.specs.declared.verdict.Verdict.{Verdict}
use Rattle.crs_identity.specs.declared.verdict.Verdict.TheVariants.{Agree, Contradict, NotCompared}
use Rattle.geoparquet.specs.Facts.{FactsOf, CrsOf, EdgesOf}
use Rattle.geoparquet.specs.FactSources.{source_word}
use Rattle.geoparquet.specs.TypeNames.{type_text}
use Rattle.geoparquet.specs.declared.fact_sources.Against.{Against}
use Rattle.geoparquet.specs.declared.text_facts.EncodingFact.{EncodingFact}
use Rattle.value_tokens.specs.Values.{or_null}
use Rattle.column_reports.specs.Objects.{array_of, object_of, member_if, string_if}
use Rattle.column_reports.specs.declared.named.NamedBy.{NamedBy}
use Rattle.column_reports.specs.declared.named.NamedBy.TheVariants.{Geo}

-- the facts of geometries, and of no other column
abbrev pub facts_in : Option GeometryColumn → FactsOf → Option FactsOf
facts_in None fs = None
facts_in (Some g) fs = Some fs

-- ---- the CRS: its value, which is null where it is not known; its type; its source

abbrev pub crs_fact_in : Option FactsOf → Option CrsOf
crs_fact_in None = None
crs_fact_in (Some fs) = fs.crs

abbrev pub crs_members : Option CrsOf → List (Text × Json)
crs_members None = []
crs_members (Some f) =
    member_if (codes "crs") (Some (or_null f.crs))
    ++ string_if (codes "crs_type") f.crs_type
    ++ string_if (codes "crs_from") (Some (source_word f.from))

-- ---- the edges: planar where no source says any

abbrev pub edges_members : Option EdgesOf → List (Text × Json)
edges_members None = string_if (codes "edges") (Some (codes "planar"))
edges_members (Some f) =
    string_if (codes "edges") (Some f.edges)
    ++ string_if (codes "edges_from") (Some (source_word f.from))

abbrev pub edges_members_in : Option FactsOf → List (Text × Json)
edges_members_in None = []
edges_members_in (Some fs) = edges_members fs.edges

-- ---- the encoding: its source

abbrev pub encoding_word : Option EncodingFact → Option Text
encoding_word None = None
encoding_word (Some f) = Some (source_word f.from)

abbrev pub encoding_word_in : Option FactsOf → Option Text
encoding_word_in None = None
encoding_word_in (Some fs) = encoding_word fs.encoding

-- ---- what the member of `columns` alone says

abbrev pub bbox_in : Option FactsOf → Option Json
bbox_in fs = option_and_then (λ f. f.member.bbox) fs

abbrev pub epoch_in : Option FactsOf → Option Json
epoch_in fs = option_and_then (λ f. f.member.epoch) fs

abbrev pub orientation_in : Option FactsOf → Option Json
orientation_in fs = option_and_then (λ f. f.member.orientation) fs

-- ---- the geometry types: those that the member says; where it says none, that of the kind that the field has by its name, or by inference

-- the kind of a field; that of a column which takes its name from the member is none, as it is the encoding that the member says
abbrev pub kind_of_field : NamedBy → ColumnFinding → Option Kind
kind_of_field Geo (Geometry g) = None
kind_of_field by f = option_map (λ g. g.kind) (geometry_in f)

-- the type of a kind: of mixed geometries, of boxes, of well-known binary and text it is none
abbrev pub type_of_kind : Kind → Option Text
type_of_kind (Native k coordinate d) = Some (type_text k d)
type_of_kind kind = None

abbrev pub type_of_field : NamedBy → ColumnFinding → Option Text
type_of_field by f = option_and_then type_of_kind (kind_of_field by f)

abbrev pub types_said : Option FactsOf → Option Json
types_said fs = option_and_then (λ f. f.member.geometry_types) fs

-- an array of one text
abbrev pub one_text : Text → Json
one_text t = array_of (string t ∷ [])

abbrev pub geometry_types_in : Option FactsOf → Option Text → Option Json
geometry_types_in fs own = option_or (types_said fs) (option_map one_text own)

-- ---- what the other sources say against them

abbrev pub verdict_word : Verdict → Text
verdict_word Agree = codes "agree"
verdict_word Contradict = codes "contradict"
verdict_word NotCompared = codes "not compared"

-- the verdict of each source, in the order of their words
abbrev pub against_members : Against → List (Text × Json)
against_members a =
    string_if (codes "element") (option_map verdict_word a.element)
    ++ string_if (codes "field") (option_map verdict_word a.field)
    ++ string_if (codes "geo") (option_map verdict_word a.geo)

-- an object of members, if there are any
abbrev pub are_some : List (Text × Json) → Bool
are_some [] = false
are_some (m ∷ ms) = true

abbrev pub object_if : List (Text × Json) → Option Json
object_if ms = if are_some ms then Some (object_of ms) else None

abbrev pub against_if : Text → Option Against → List (Text × Json)
against_if k None = []
against_if k (Some a) = member_if k (object_if (against_members a))

abbrev pub crs_against : FactsOf → Option Against
crs_against fs = option_map (λ f. f.against) fs.crs

abbrev pub edges_against : FactsOf → Option Against
edges_against fs = option_map (λ f. f.against) fs.edges

abbrev pub encoding_against : FactsOf → Option Against
encoding_against fs = option_map (λ f. f.against) fs.encoding

abbrev pub verdict_members : FactsOf → List (Text × Json)
verdict_members fs =
    against_if (codes "crs") (crs_against fs)
    ++ against_if (codes "edges") (edges_against fs)
    ++ against_if (codes "encoding") (encoding_against fs)

abbrev pub verdicts_in : Option FactsOf → Option Json
verdicts_in None = None
verdicts_in (Some fs) = object_if (verdict_members fs)

-- ---- for private contracts

abbrev pub has_one : Option Against → Bool
has_one None = false
has_one (Some a) = are_some (against_members a)
