-- Longitudes and latitudes of `bbox` that are out of range (docs/FORMAT.md, 5).
use Rattle.std.specs.Prelude.{◌==◌, Bool, List, [], ◌∷◌, ◌++◌, ℕ, Option, None, Some, codes, length, if◌then◌else◌}
use Rattle.std.specs.Float.{binary64}
use Rattle.std.specs.Float.Ieee.{Float}
use Rattle.std.specs.Float.Parse.{parse_float}
use lib.ListN.{get_or}
use Rattle.json.specs.Json.{Json, null}
use Rattle.arrow_values.specs.Tree.{Text}
use Rattle.arrow_columns.specs.Types.{ColumnTree}
use Rattle.geoparquet.specs.BoxRules.{box_in, box_place, float_of, is_less}
use Rattle.geoparquet.specs.Counting.{is_crs_paired}
use Rattle.geoparquet.specs.Sources.{Element}
use Rattle.geoparquet.specs.Findings.{Finding, item_place}
use Rattle.geoparquet.specs.Rules.{found_at}
use Rattle.geoparquet.specs.declared.code.GeoCode.TheVariants.{BboxRange}
use Rattle.geoparquet.specs.declared.finding.Version.{Version}

-- the nearest float of a number's text
abbrev pub nearest_float : Text → Option Float
nearest_float s = parse_float binary64 s

-- the limit that a longitude, or a latitude, is beyond, if it is: by more than a thousandth of a degree, since writers round
abbrev pub longitude_limit : Json → Option Text
longitude_limit j =
    if is_less (float_of j) (nearest_float (codes "-180.001")) then Some (codes "-180")
    else if is_less (nearest_float (codes "180.001")) (float_of j) then Some (codes "180")
    else None

abbrev pub latitude_limit : Json → Option Text
latitude_limit j =
    if is_less (float_of j) (nearest_float (codes "-90.001")) then Some (codes "-90")
    else if is_less (nearest_float (codes "90.001")) (float_of j) then Some (codes "90")
    else None

-- what is found of a bound, which is the item of that number
abbrev pub limit_findings : Text → ℕ → Json → Option Text → List Finding
limit_findings key index j None = []
limit_findings key index j (Some limit) =
    found_at BboxRange (Some key) (item_place (box_place key) index) (Some j) (Some limit) ∷ []

abbrev pub bound_range_findings : (Json → Option Text) → Text → ℕ → Json → List Finding
bound_range_findings limit key index j = limit_findings key index j (limit j)

-- of the bounds of x and y, which are the items of those numbers
unfoldable pub pair_range_findings : Text → List Json → ℕ → ℕ → List Finding
pair_range_findings key js x y =
    bound_range_findings longitude_limit key x (get_or js x null)
    ++ bound_range_findings latitude_limit key y (get_or js y null)

-- the bounds of x and y are the first two of the least, and of the greatest
abbrev pub range_findings : Text → List Json → List Finding
range_findings key js =
    if length js == 4 then pair_range_findings key js 0 1 ++ pair_range_findings key js 2 3
    else if length js == 6 then pair_range_findings key js 0 1 ++ pair_range_findings key js 3 4
    else if length js == 8 then pair_range_findings key js 0 1 ++ pair_range_findings key js 4 5
    else []

-- judged where the CRS that counts is one of the table of pairs
abbrev pub judged_range : List Finding → Bool → List Finding
judged_range [] paired = []
judged_range (f ∷ fs) paired = if paired then f ∷ fs else []

abbrev pub box_range : Bool → Text → Option (List Json) → List Finding
box_range paired key (Some js) = judged_range (range_findings key js) paired
box_range paired key None = []

abbrev pub bbox_range_findings : Version → Text → Option ColumnTree → Option Element → Json → List Finding
bbox_range_findings version key c e member =
    box_range (is_crs_paired version c e member) key (box_in version member)
