-- What each source says of the edges of a column, and those that count (docs/FORMAT.md, 5).
use Rattle.std.specs.Prelude.{Bool, true, false, codes, string_bytes, Option, None, Some, is_some, option_and_then, option_map, if◌then◌else◌}
use Rattle.json.specs.Json.{Json}
use Rattle.json.specs.Find.{get}
use Rattle.serde_json.specs.Data.{Data}
use Rattle.serde_json.specs.Find.{get as get_data}
use Rattle.arrow_values.specs.Tree.{Text}
use Rattle.geoparquet.specs.Contradictions.{are_absent, are_default_edges, element_edges, field_edges, said_edges}
use Rattle.geoparquet.specs.FactSources.{BySource, against, of_source, source_counting, text_verdict}
use Rattle.geoparquet.specs.Sources.{Element}
use Rattle.geoparquet.specs.declared.fact_sources.Against.{Against}
use Rattle.geoparquet.specs.declared.fact_sources.FactSource.{FactSource}
use Rattle.geoparquet.specs.declared.finding.Version.{Version}
use Rattle.geoparquet.specs.declared.text_facts.EdgesFact.{EdgesFact}

-- what a member says of them
abbrev pub member_edges : Version → Option Json → Option Text
member_edges version None = None
member_edges version (Some j) = said_edges version (get (codes "edges") j)

-- what each source says, by the extension metadata of the element, the member and those of the field
abbrev pub edges_claims : Version → Option Json → Option Element → Data → Data → BySource Text
edges_claims version member e element field =
    record { element = element_edges e element; geo = member_edges version member; field = field_edges e field }

-- a source that says something says the default where it has no `edges`; an element where it is a GEOGRAPHY without an algorithm
abbrev pub is_default_if : Bool → Option Text → Option Bool
is_default_if is_default said = option_map (λ s. is_default) said

abbrev pub has_no_edges : Option Json → Bool
has_no_edges None = true
has_no_edges (Some j) = if is_some (get (codes "edges") j) then false else true

abbrev pub edges_defaults : Option Json → Option Element → Data → BySource Text → BySource Bool
edges_defaults member e field ts = record {
  element = is_default_if (are_default_edges e) ts.element;
  geo = is_default_if (has_no_edges member) ts.geo;
  field = is_default_if (are_absent (get_data (codes "edges") field)) ts.field;
}

-- ---- those that count: their source, their word, and what the others say against them

pub record EdgesOf : Type 0 where
  pub from : FactSource
  pub edges : Text
  pub against : Against

abbrev pub edges_view : EdgesFact → EdgesOf
edges_view f = record { from = f.from; edges = string_bytes f.edges; against = f.against }

abbrev pub edges_from : BySource Text → FactSource → Option EdgesOf
edges_from ts from = option_map (λ s. record { from = from; edges = s; against = against text_verdict from ts }) (of_source from ts)

-- what the first source says that says no default, else the first that says one
abbrev pub edges_fact_of : BySource Text → BySource Bool → Option EdgesOf
edges_fact_of ts ds = option_and_then (edges_from ts) (source_counting ds)

abbrev pub edges_fact_in : Version → Option Json → Option Element → Data → Data → Option EdgesOf
edges_fact_in version member e element field =
    edges_fact_of (edges_claims version member e element field) (edges_defaults member e field (edges_claims version member e element field))
