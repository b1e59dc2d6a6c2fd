-- The CRS and the edges that count: by which a column is judged where its element, its member and its field say some (docs/FORMAT.md, 5).
use Rattle.std.specs.Prelude.{[], ◌∷◌, ◌++◌, ◌&&◌, is_some, Bool, true, false, List, codes, bytes_eq, Option, None, Some, if◌then◌else◌}
use Rattle.json.specs.Json.{Json}
use Rattle.json.specs.Find.{get}
use Rattle.arrow_values.specs.Tree.{Text}
use Rattle.arrow_columns.specs.Types.{ColumnTree}
use Rattle.crs_identity.specs.Verdicts.{Claimed, class_said, form_said, has_paired}
use Rattle.crs_identity.specs.declared.class.Class.{Class}
use Rattle.crs_identity.specs.declared.class.Class.TheVariants as classes
use Rattle.geoparquet.specs.Contradictions.{element_metadata, own_metadata}
use Rattle.geoparquet.specs.CrsClaims.{element_crs, element_json, field_json, own_crs_in, said_crs}
use Rattle.geoparquet.specs.EdgesClaims.{EdgesOf, edges_fact_in}
use Rattle.geoparquet.specs.CrsWords.{crs_word}
use Rattle.geoparquet.specs.Findings.{Finding}
use Rattle.geoparquet.specs.Rules.{part_place, told_at, told_in}
use Rattle.geoparquet.specs.Sources.{Element}
use Rattle.geoparquet.specs.Versions.{is_judged}
use Rattle.geoparquet.specs.declared.code.GeoCode.TheVariants.{EdgesOnProjected}
use Rattle.geoparquet.specs.declared.counting.Asked.{Asked}
use Rattle.geoparquet.specs.declared.counting.Asked.TheVariants.{Projected, Paired}
use Rattle.geoparquet.specs.declared.fact_sources.FactSource.{FactSource}
use Rattle.geoparquet.specs.declared.fact_sources.FactSource.TheVariants as of
use Rattle.geoparquet.specs.declared.finding.Version.{Version}
use Rattle.geoparquet.specs.declared.finding.Version.TheVariants.{V1_1}

-- ---- the CRS

-- of two the first that is said; else the first that is a default
abbrev pub counting : Option Claimed → Option Claimed → Option Claimed
counting None other = other
counting (Some said) None = Some said
counting (Some said) (Some other) = if said.is_default then (if other.is_default then Some said else Some other) else Some said

-- in the order of the element, the member and the field
abbrev pub crs_counting : Option Element → Option Json → Option Json → Option Claimed → Option Claimed
crs_counting e element field said = counting (counting (element_crs e element) said) (own_crs_in field)

abbrev pub crs_that_counts : Version → Option ColumnTree → Option Element → Json → Option Claimed
crs_that_counts version c e j =
    crs_counting e (element_json e c) (field_json e c) (said_crs version (get (codes "crs") j))

-- where there is no member
abbrev pub crs_alone : Option ColumnTree → Option Element → Option Claimed
crs_alone c e = crs_counting e (element_json e c) (field_json e c) None

-- whether it is known to be projected
abbrev pub is_projected_class : Option Class → Bool
is_projected_class None = false
is_projected_class (Some classes.Geographic) = false
is_projected_class (Some classes.Projected) = true

abbrev pub is_projected : Option Claimed → Bool
is_projected None = false
is_projected (Some c) = is_projected_class (class_said c.crs)

-- whether it has an identifier of the table of pairs (docs/FORMAT.md, 5.3)
abbrev pub is_paired : Option Claimed → Bool
is_paired None = false
is_paired (Some c) = has_paired (form_said c.crs)

-- each of them, as it is asked
abbrev pub is_asked : Asked → Option Claimed → Bool
is_asked Projected crs = is_projected crs
is_asked Paired crs = is_paired crs

-- the name of one of which that holds; of what has an identifier of the table no more than that
abbrev pub word_if : Bool → Text → Option Text
word_if holds word = if holds then Some word else None

abbrev pub asked_word : Asked → Option Claimed → Option Text
asked_word asked None = None
asked_word Projected (Some c) = word_if (is_projected_class (class_said c.crs)) (crs_word c.crs)
asked_word Paired (Some c) = word_if (has_paired (form_said c.crs)) []

-- of a member that says a CRS, a default included; one that says a broken CRS is not judged
abbrev pub is_paired_by : Option Element → Option Json → Option Json → Option Claimed → Bool
is_paired_by e element field said = is_some said && is_paired (crs_counting e element field said)

abbrev pub is_crs_paired : Version → Option ColumnTree → Option Element → Json → Bool
is_crs_paired version c e j =
    is_paired_by e (element_json e c) (field_json e c) (said_crs version (get (codes "crs") j))

-- ---- the edges

-- the finding of edges: of those of a member at their place there, of any others in what the element or the field says
abbrev pub member_edges_finding : Text → Text → Finding
member_edges_finding key word = told_at EdgesOnProjected (Some key) (part_place key (codes "edges")) (Some word) None

abbrev pub own_edges_finding : FactSource → Text → Text → Finding
own_edges_finding source key word = told_in source EdgesOnProjected key (Some word) None

abbrev pub edges_finding : Text → FactSource → Text → Finding
edges_finding key of.Geo word = member_edges_finding key word
edges_finding key of.Element word = own_edges_finding of.Element key word
edges_finding key of.Field word = own_edges_finding of.Field key word

-- edges that are not planar, and a CRS that is projected, by its name; where none are said, they are planar
abbrev pub edges_word : Text → Text → Text
edges_word edges crs = edges ++ (codes ", " ++ crs)

abbrev pub projected_findings : Text → EdgesOf → Option Text → List Finding
projected_findings key x None = []
projected_findings key x (Some crs) = edges_finding key x.from (edges_word x.edges crs) ∷ []

abbrev pub unplanar_findings : Text → Option Text → Option EdgesOf → List Finding
unplanar_findings key crs None = []
unplanar_findings key crs (Some x) = if bytes_eq x.edges (codes "planar") then [] else projected_findings key x crs

abbrev pub projects : Version → Option ColumnTree → Option Element → Option Json → Option Text
projects version c e None = asked_word Projected (crs_alone c e)
projects version c e (Some j) = asked_word Projected (crs_that_counts version c e j)

abbrev pub on_projected_findings : Version → Text → Option ColumnTree → Option Element → Option Json → List Finding
on_projected_findings version key c e member =
    unplanar_findings key (projects version c e member) (edges_fact_in version member e (element_metadata e c) (own_metadata c))

-- of a column with a member: not judged before 1.0.0
abbrev pub edges_on_projected_findings : Version → Text → Option ColumnTree → Option Element → Json → List Finding
edges_on_projected_findings version key c e j = if is_judged version then on_projected_findings version key c e (Some j) else []

-- of one that has no member
abbrev pub own_on_projected_findings : Text → Option ColumnTree → Option Element → List Finding
own_on_projected_findings key c e = on_projected_findings V1_1 key c e None
