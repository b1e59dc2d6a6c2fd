-- `bbox`: as many numbers as the version takes, in order, and of the dimension of the types (docs/FORMAT.md, 5).
use Rattle.std.specs.Prelude.{◌&&◌, ◌||◌, ◌==◌, not, Bool, true, false, List, [], ◌∷◌, ◌++◌, ℕ, Option, None, Some, codes, length, is_some, option_and_then, unwrap_or, if◌then◌else◌}
use Rattle.std.specs.Float.{binary64}
use Rattle.std.specs.Float.Ieee.{Float, lt}
use Rattle.std.specs.Float.Parse.{parse_float}
use Rattle.std.specs.List.{list_all}
use lib.ListN.{get_or}
use Rattle.json.specs.Json.{Json, null}
use Rattle.json.specs.Find.{get, as_number}
use Rattle.arrow_values.specs.Tree.{Text}
use Rattle.arrow_columns.specs.Types.{ColumnTree}
use Rattle.geoarrow_layout.specs.declared.dimensions.Dimension.{Dimension}
use Rattle.geoarrow_layout.specs.declared.native_kinds.NativeKind.{NativeKind}
use Rattle.geoparquet.specs.Counting.{crs_that_counts, is_projected}
use Rattle.geoparquet.specs.Sources.{Element}
use Rattle.geoparquet.specs.Findings.{Finding, item_place, shown, shown_value}
use Rattle.geoparquet.specs.Rules.{found_at, part_place, part_finding, told_at, unless, items_in, items_findings}
use Rattle.geoparquet.specs.TypeNames.{has_z}
use Rattle.geoparquet.specs.TypeRules.{type_of, types_in}
use Rattle.geoparquet.specs.Versions.{is_judged}
use Rattle.geoparquet.specs.declared.code.GeoCode.TheVariants.{Bbox, BboxOrder, BboxDimension}
use Rattle.geoparquet.specs.declared.finding.Version.{Version}
use Rattle.geoparquet.specs.declared.finding.Version.TheVariants.{Old, V1_0, V1_1, V2}

-- whether boxes of eight numbers are taken: with z and m
abbrev pub takes_eight : Version → Bool
takes_eight Old = false
takes_eight V1_0 = false
takes_eight V1_1 = false
takes_eight V2 = true

-- how many numbers a box has
abbrev pub is_size : Version → ℕ → Bool
is_size version n = (n == 4) || (n == 6) || (if takes_eight version then n == 8 else false)

abbrev pub is_number : Json → Bool
is_number j = is_some (as_number j)

-- ---- `bbox` is absent, or an array of as many numbers

abbrev pub box_place : Text → Text
box_place key = part_place key (codes "bbox")

abbrev pub box_or_other : Version → Text → Json → Option (List Json) → List Finding
box_or_other version key found (Some js) =
    if is_size version (length js) then items_findings (λ before j. is_number j) Bbox key (box_place key) [] js
    else part_finding Bbox key (codes "bbox") (Some found) ∷ []
box_or_other version key found None = part_finding Bbox key (codes "bbox") (Some found) ∷ []

abbrev pub found_box : Version → Text → Option Json → List Finding
found_box version key None = []
found_box version key (Some j) = box_or_other version key j (items_in (Some j))

abbrev pub bbox_findings : Version → Text → Json → List Finding
bbox_findings version key member =
    if is_judged version then found_box version key (get (codes "bbox") member) else []

-- the numbers of `bbox`, where it is there and nothing is found of it
abbrev pub is_box : Version → List Json → Bool
is_box version js = is_judged version && (is_size version (length js) && list_all is_number js)

abbrev pub numbers_of_box : Version → Option (List Json) → Option (List Json)
numbers_of_box version (Some js) = if is_box version js then Some js else None
numbers_of_box version None = None

abbrev pub box_in : Version → Json → Option (List Json)
box_in version member = numbers_of_box version (items_in (get (codes "bbox") member))

-- ---- a least bound is at most the greatest, each as the nearest float. That of x may be greater: a box across the antimeridian;
-- but not where the CRS that counts is projected

abbrev pub float_of : Json → Option Float
float_of j = option_and_then (parse_float binary64) (as_number j)

abbrev pub is_less : Option Float → Option Float → Bool
is_less (Some a) (Some b) = lt a b
is_less _ _ = false

abbrev pub is_in_order : Json → Json → Bool
is_in_order least greatest = not (is_less (float_of greatest) (float_of least))

-- both bounds of an axis, of which the least is the item of that number
abbrev pub axis_name : ℕ → Text
axis_name index = if index == 0 then codes "x" else if index == 1 then codes "y" else if index == 2 then codes "z" else codes "m"

abbrev pub bounds_text : Text → Text → Text → Text
bounds_text axis least greatest = axis ++ (codes "min " ++ (least ++ (codes ", " ++ (axis ++ (codes "max " ++ greatest)))))

abbrev pub bounds_shown : ℕ → Json → Json → Text
bounds_shown index least greatest = shown (bounds_text (axis_name index) (shown_value least) (unwrap_or (as_number greatest) []))

-- what is found of the least bound of an axis, where the greatest is less
abbrev pub bound_finding : Text → ℕ → Json → Json → Finding
bound_finding key index least greatest =
    told_at BboxOrder (Some key) (item_place (box_place key) index) (Some (bounds_shown index least greatest)) (as_number greatest)

abbrev pub bound_findings : Text → ℕ → Json → Json → List Finding
bound_findings key index least greatest = unless (is_in_order least greatest) (bound_finding key index least greatest)

abbrev pub axis_findings : Text → List Json → ℕ → ℕ → List Finding
axis_findings key js least greatest = bound_findings key least (get_or js least null) (get_or js greatest null)

-- the least bounds of x, y, z and m stand in front, in this order, then the greatest; of all but x
abbrev pub order_findings : Text → List Json → List Finding
order_findings key js =
    if length js == 4 then axis_findings key js 1 3
    else if length js == 6 then axis_findings key js 1 4 ++ axis_findings key js 2 5
    else if length js == 8 then axis_findings key js 1 5 ++ (axis_findings key js 2 6 ++ axis_findings key js 3 7)
    else []

-- of x, whose least bound is the first item
abbrev pub x_findings : Bool → Text → Json → Json → List Finding
x_findings projected key least greatest =
    unless (is_in_order least greatest || not projected) (bound_finding key 0 least greatest)

abbrev pub x_axis_findings : Bool → Text → List Json → ℕ → List Finding
x_axis_findings projected key js greatest = x_findings projected key (get_or js 0 null) (get_or js greatest null)

abbrev pub x_order_findings : Bool → Text → List Json → List Finding
x_order_findings projected key js =
    if length js == 4 then x_axis_findings projected key js 2
    else if length js == 6 then x_axis_findings projected key js 3
    else if length js == 8 then x_axis_findings projected key js 4
    else []

abbrev pub box_order : Bool → Text → Option (List Json) → List Finding
box_order projected key (Some js) = x_order_findings projected key js ++ order_findings key js
box_order projected key None = []

abbrev pub bbox_order_findings : Version → Text → Option ColumnTree → Option Element → Json → List Finding
bbox_order_findings version key c e member =
    box_order (is_projected (crs_that_counts version c e member)) key (box_in version member)

-- ---- the types have a z where the box has one

abbrev pub type_is : Bool → Option (NativeKind × Dimension) → Bool
type_is z None = false
type_is true (Some t) = has_z t.1
type_is false (Some t) = not (has_z t.1)

-- whether there are types, and each has a z, or each has none
abbrev pub are_all : Bool → List Json → Bool
are_all z js = list_all (λ j. type_is z (type_of j)) js

abbrev pub are_types : Bool → List Json → Bool
are_types z [] = false
are_types z (j ∷ js) = are_all z (j ∷ js)

-- how many numbers the types want, where the box has that many others
abbrev pub other_size : ℕ → List Json → Option Text
other_size size types =
    if (size == 6) && are_types false types then Some (codes "4")
    else if (size == 4) && are_types true types then Some (codes "6")
    else None

abbrev pub size_wanted : Option (List Json) → Option (List Json) → Option Text
size_wanted (Some numbers) (Some types) = other_size (length numbers) types
size_wanted numbers types = None

abbrev pub size_findings : Text → Option Json → Option Text → List Finding
size_findings key found None = []
size_findings key found (Some wanted) = found_at BboxDimension (Some key) (box_place key) found (Some wanted) ∷ []

abbrev pub bbox_dimension_findings : Version → Text → Json → List Finding
bbox_dimension_findings version key member =
    size_findings key (get (codes "bbox") member) (size_wanted (box_in version member) (types_in member))
