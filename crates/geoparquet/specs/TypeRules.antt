-- `geometry_types`: which values it may have, by version (docs/FORMAT.md, 5).
use Rattle.std.specs.Prelude.{◌&&◌, not, Bool, true, false, List, [], ◌∷◌, Option, None, Some, codes, bytes_eq, is_some, option_and_then, if◌then◌else◌}
use Rattle.std.specs.List.{list_any}
use Rattle.json.specs.Json.{Json, string}
use Rattle.json.specs.Find.{get, as_str}
use Rattle.arrow_values.specs.Tree.{Text}
use Rattle.geoarrow_layout.specs.declared.dimensions.Dimension.{Dimension}
use Rattle.geoarrow_layout.specs.declared.native_kinds.NativeKind.{NativeKind}
use Rattle.geoparquet.specs.Findings.{Finding, shown_value}
use Rattle.geoparquet.specs.Capped.{capped}
use Rattle.geoparquet.specs.Rules.{part_place, told_at, items_in, items_findings}
use Rattle.geoparquet.specs.TypeNames.{type_named, has_m}
use Rattle.geoparquet.specs.Versions.{is_judged}
use Rattle.geoparquet.specs.declared.code.GeoCode.TheVariants.{Types, TypesVersion}
use Rattle.geoparquet.specs.declared.finding.Version.{Version}
use Rattle.geoparquet.specs.declared.finding.Version.TheVariants.{Old, V1_0, V1_1, V2}

-- the items of `geometry_types`, where it is an array
abbrev pub types_in : Json → Option (List Json)
types_in member = items_in (get (codes "geometry_types") member)

-- the type that a value says, where it is the name of one
abbrev pub type_of : Json → Option (NativeKind × Dimension)
type_of j = option_and_then type_named (as_str j)

-- the value is that text
abbrev pub is_text : Text → Json → Bool
is_text s (string t) = bytes_eq t s
is_text s _ = false

-- a value that is the name of a type, and none of those before it
abbrev pub is_new_type : List Json → Json → Bool
is_new_type before (string s) = is_some (type_named s) && not (list_any (is_text s) before)
is_new_type before _ = false

-- whether a value is a type with an m
abbrev pub type_has_m : Option (NativeKind × Dimension) → Bool
type_has_m None = false
type_has_m (Some t) = has_m t.1

abbrev pub is_without_m : List Json → Json → Bool
is_without_m before j = not (type_has_m (type_of j))

-- whether types may have an m
abbrev pub takes_m : Version → Bool
takes_m Old = true
takes_m V1_0 = false
takes_m V1_1 = false
takes_m V2 = true

-- what is found in place of an array: what stands there; where nothing does, the key of 0.4, if that is there
abbrev pub no_types_found : Bool → Option Json → Option Text
no_types_found old (Some j) = Some (shown_value j)
no_types_found old None = if old then Some (codes "geometry_type") else None

-- an array of different names of types
abbrev pub types_or_other : Text → Bool → Option Json → Option (List Json) → List Finding
types_or_other key old found (Some js) = capped (items_findings is_new_type Types key (part_place key (codes "geometry_types")) [] js)
types_or_other key old found None = told_at Types (Some key) (part_place key (codes "geometry_types")) (no_types_found old found) None ∷ []

abbrev pub found_types : Text → Bool → Option Json → List Finding
found_types key old found = types_or_other key old found (items_in found)

abbrev pub types_findings : Version → Text → Json → List Finding
types_findings version key member =
    if is_judged version then found_types key (is_some (get (codes "geometry_type") member)) (get (codes "geometry_types") member) else []

-- no type with an m before version 2
abbrev pub found_with_m : Text → Option (List Json) → List Finding
found_with_m key (Some js) = capped (items_findings is_without_m TypesVersion key (part_place key (codes "geometry_types")) [] js)
found_with_m key None = []

abbrev pub types_version_findings : Version → Text → Json → List Finding
types_version_findings version key member = if takes_m version then [] else found_with_m key (types_in member)
