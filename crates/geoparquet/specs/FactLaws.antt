-- Laws of facts.
use Rattle.std.specs.Prelude.{◌≡◌, not, Option, Some, option_and_then}
use Rattle.json.specs.Json.{Json}
use Rattle.arrow_values.specs.Tree.{Text}
use Rattle.arrow_columns.specs.Types.{ColumnTree}
use Rattle.crs_identity.specs.Verdicts.{Claimed}
use Rattle.geoparquet.specs.Contradictions.{layout_findings}
use Rattle.geoparquet.specs.Counting.{crs_that_counts}
use Rattle.geoparquet.specs.FactSources.{BySource, of_source, source_counting}
use Rattle.geoparquet.specs.Facts.{crs_claims, crs_defaults, json_sources, layout_contradicts}
use Rattle.geoparquet.specs.MemberFacts.{are_kept}
use Rattle.geoparquet.specs.Sources.{Element}
use Rattle.geoparquet.specs.declared.finding.Version.{Version}

-- what the source that counts says of the CRS
abbrev pub claim_counting : BySource Claimed → Option Claimed
claim_counting cs = option_and_then (λ from. of_source from cs) (source_counting (crs_defaults cs))

-- the CRS by which a column with a member is judged is what the source that counts says
abbrev pub IsJudgedByFact : Type 0
IsJudgedByFact =
    (version : Version) (c : ColumnTree) (e : Option Element) (j : Json)
    → crs_that_counts version (Some c) e j ≡ claim_counting (crs_claims version e (json_sources (Some j) c e))

-- of a column with a member `GeoLayout` is found exactly where its facts say so
abbrev pub IsLayoutFound : Type 0
IsLayoutFound =
    (version : Version) (key : Text) (c : ColumnTree) (e : Option Element) (j : Json)
    → are_kept (layout_findings version key (Some c) e j) ≡ not (layout_contradicts version (Some j) c e)
