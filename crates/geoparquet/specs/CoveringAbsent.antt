-- A group that would do as a covering, where a column has none (docs/FORMAT.md, 5).
use Rattle.std.specs.Prelude.{◌&&◌, ◌||◌, ◌==◌, Bool, true, false, not, List, [], ◌∷◌, codes, Option, None, Some, is_some, find, length, option_map, if◌then◌else◌}
use Rattle.std.specs.List.{list_all}
use Rattle.json.specs.Json.{Json, string}
use Rattle.json.specs.Find.{get}
use Rattle.arrow_values.specs.Tree.{Text}
use Rattle.arrow_columns.specs.Types.{ColumnTree}
use Rattle.geoparquet.specs.Coverings.{child_of, children_in, fits}
use Rattle.geoparquet.specs.Findings.{Finding}
use Rattle.geoparquet.specs.Rules.{column_place, found_at}
use Rattle.geoparquet.specs.Versions.{is_judged}
use Rattle.geoparquet.specs.declared.code.GeoCode.TheVariants.{CoveringAbsent}
use Rattle.geoparquet.specs.declared.finding.Version.{Version}

-- the bounds of a box, without those of height and with them
abbrev pub flat_names : List Text
flat_names = codes "xmin" ∷ codes "ymin" ∷ codes "xmax" ∷ codes "ymax" ∷ []

abbrev pub high_names : List Text
high_names = codes "xmin" ∷ codes "ymin" ∷ codes "xmax" ∷ codes "ymax" ∷ codes "zmin" ∷ codes "zmax" ∷ []

-- as many children as names, and a child of floats under each: so each name stands there once, and no other does
abbrev pub have_names : List Text → Bool → List ColumnTree → Bool
have_names names single cs = (length cs == length names) && list_all (λ name. fits single (child_of name cs)) names

-- the children are those bounds, all of single precision, or all of double
abbrev pub are_floats : List Text → List ColumnTree → Bool
are_floats names cs = have_names names true cs || have_names names false cs

abbrev pub is_box : Option (List ColumnTree) → Bool
is_box None = false
is_box (Some cs) = are_floats flat_names cs || are_floats high_names cs

abbrev pub is_box_column : ColumnTree → Bool
is_box_column c = is_box (children_in c.data_type)

-- the name of the first column that is such a group
abbrev pub first_box : List ColumnTree → Option Text
first_box cs = option_map (λ c. c.name) (find is_box_column cs)

-- what is found of a column that has no covering, where that group could be one
abbrev pub absent_findings : Text → Option Text → List Finding
absent_findings key None = []
absent_findings key (Some name) = found_at CoveringAbsent (Some key) (column_place key) (Some (string name)) None ∷ []

-- the key names a column, and the member says no covering; not judged before 1.0.0
abbrev pub lacks_covering : Version → Option ColumnTree → Json → Bool
lacks_covering version c j = is_judged version && (is_some c && not (is_some (get (codes "covering") j)))

abbrev pub absent_where : Bool → Text → Option Text → List Finding
absent_where lacks key boxed = if lacks then absent_findings key boxed else []

abbrev pub covering_absent_findings : List ColumnTree → Version → Text → Option ColumnTree → Json → List Finding
covering_absent_findings cs version key c j = absent_where (lacks_covering version c j) key (first_box cs)
