-- The report of a column: what is said of it, as a JSON value.
use Rattle.std.specs.Prelude.{ℕ, List, ◌++◌, codes, decimal, Option, None, Some}
use Rattle.json.specs.Json.{Json, number}
use Rattle.arrow_values.specs.Tree.{Text}
use Rattle.arrow_columns.specs.Column.{column_tree, name_on}
use Rattle.arrow_columns.specs.Types.{ColumnTree}
use Rattle.arrow_columns.specs.Notation.{type_text}
use Rattle.geoarrow_layout.specs.declared.native_kinds.Kind.{Kind}
use Rattle.geoarrow_layout.specs.Kinds.{coord_type_of, dimension_of}
use Rattle.geoarrow_layout.specs.KindWords.{kind_word, coord_type_word, dimension_word}
use Rattle.column_check.specs.declared.finding.Geometry.{Geometry as GeometryColumn}
use Rattle.column_check.specs.declared.finding.Finding.{Finding as ColumnFinding}
use Rattle.column_check.specs.declared.finding.Finding.TheVariants.{Geometry, Invalid, Extension, Inferred, Plain}
use Rattle.column_check.specs.States.{geometry_in}
use Rattle.geoparquet.specs.Facts.{FactsOf, facts_view}
use Rattle.column_reports.specs.FactMembers.{bbox_in, epoch_in, geometry_types_in, orientation_in, crs_fact_in, crs_members, edges_members_in, encoding_word_in, facts_in, type_of_field, verdicts_in}
use Rattle.column_reports.specs.FindingLines.{findings_in}
use Rattle.column_reports.specs.Objects.{object_of, member_if, string_if}
use Rattle.column_reports.specs.declared.named.NamedBy.{NamedBy}
use Rattle.column_reports.specs.declared.report.ColumnReport.{ColumnReport}
use Rattle.column_reports.specs.declared.weighed.Weighed.{Weighed}

abbrev pub state_word : ColumnFinding → Text
state_word (Geometry g) = codes "geometry"
state_word (Invalid r) = codes "invalid"
state_word Extension = codes "extension"
state_word (Inferred g) = codes "inferred"
state_word Plain = codes "plain"

-- kind, coordinate type and dimension
abbrev pub kind_text : Kind → Text
kind_text k = kind_word k ++ codes " " ++ coord_type_word (coord_type_of k) ++ codes " " ++ dimension_word (dimension_of k)

-- the type: of geometries their kind, of another column its data type
abbrev pub type_word : ColumnTree → Option GeometryColumn → Text
type_word c (Some g) = kind_text g.kind
type_word c None = type_text c.data_type

-- the members: what the object is, the file, where it is named, the place of the column and its name
abbrev pub names_of : Option Text → ℕ → ColumnTree → List (Text × Json)
names_of file index c =
    string_if (codes "kind") (Some (codes "column"))
    ++ string_if (codes "file") file
    ++ member_if (codes "index") (Some (number (decimal index)))
    ++ string_if (codes "column") (Some c.name)

-- its state, its type, which source says it, and its extension name
abbrev pub state_of : ColumnTree → ColumnFinding → Text → Option FactsOf → List (Text × Json)
state_of c f word fs =
    string_if (codes "state") (Some (state_word f))
    ++ string_if (codes "type") (Some word)
    ++ string_if (codes "type_from") (encoding_word_in fs)
    ++ string_if (codes "extension") (name_on c)

-- its CRS, its edges and its epoch
abbrev pub crs_of : Option FactsOf → List (Text × Json)
crs_of fs =
    crs_members (crs_fact_in fs)
    ++ edges_members_in fs
    ++ member_if (codes "epoch") (epoch_in fs)

-- the orientation of its rings, its geometry types, its box, and what the other sources say
abbrev pub more_facts_of : NamedBy → ColumnFinding → Option FactsOf → List (Text × Json)
more_facts_of by f fs =
    member_if (codes "orientation") (orientation_in fs)
    ++ member_if (codes "geometry_types") (geometry_types_in fs (type_of_field by f))
    ++ member_if (codes "bbox") (bbox_in fs)
    ++ member_if (codes "verdicts") (verdicts_in fs)

abbrev pub members_of : Option Text → ℕ → ColumnTree → NamedBy → ColumnFinding → Option FactsOf → List Weighed → List (Text × Json)
members_of file index c by f fs ws =
    names_of file index c
    ++ state_of c f (type_word c (geometry_in f)) fs
    ++ crs_of fs
    ++ more_facts_of by f fs
    ++ member_if (codes "findings") (findings_in ws)

-- the report: the file, where it is named, the place of the column, the column, what is said of it, its facts, and what is found of it
abbrev pub report : Option Text → ℕ → ColumnReport → Json
report file index r =
    object_of (members_of file index (column_tree r.column) r.by r.finding (facts_in (geometry_in r.finding) (facts_view r.facts)) r.findings.items)
