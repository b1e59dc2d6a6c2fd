-- A column as it is compared: the column itself, and, of geometries, what counts of their CRS and their edges.
use Rattle.std.specs.Prelude.{◌&&◌, Bool, codes, [], Option, Some, is_some, option_map, unwrap_or}
use Rattle.arrow_values.specs.Tree.{Text}
use Rattle.arrow_columns.specs.Column.{column_tree}
use Rattle.arrow_columns.specs.Types.{ColumnTree}
use Rattle.column_check.specs.States.{geometry_in}
use Rattle.geoparquet.specs.Contradictions.{named_encoding}
use Rattle.geoparquet.specs.Facts.{FactsOf, facts_view}
use Rattle.column_reports.specs.FactMembers.{facts_in}
use Rattle.column_reports.specs.declared.report.ColumnReport.{ColumnReport}

pub record Compared : Type 0 where
  pub column : ColumnTree
  pub facts : Option FactsOf

-- that of a report: the facts that a report shows, which are those of geometries
abbrev pub compared : ColumnReport → Compared
compared r = record { column = column_tree r.column; facts = facts_in (geometry_in r.finding) (facts_view r.facts) }

-- the encoding that its extension name says; no text where it says none
abbrev pub encoding_word : ColumnTree → Text
encoding_word c = unwrap_or (named_encoding (Some c)) []

-- the edges that a report shows: planar where no source says any
abbrev pub edges_word : FactsOf → Text
edges_word f = unwrap_or (option_map (λ e. e.edges) f.edges) (codes "planar")

-- whether both are geometries
abbrev pub are_geometries : Compared → Compared → Bool
are_geometries a b = is_some a.facts && is_some b.facts
