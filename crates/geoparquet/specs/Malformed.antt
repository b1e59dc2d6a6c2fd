-- An object at `crs` that is no PROJJSON (docs/FORMAT.md, 5 and 5.3).
use Rattle.std.specs.Prelude.{◌&&◌, not, ℕ, Bool, true, false, List, [], ◌∷◌, ◌++◌, codes, map, Option, None, Some, option_and_then, if◌then◌else◌}
use Rattle.json.specs.Json.{Json}
use Rattle.json.specs.Find.{at, get}
use Rattle.value_tokens.specs.Values.{is_object}
use Rattle.arrow_values.specs.Tree.{Text}
use Rattle.crs_identity.specs.Malformed.{malformed_parts, pointer}
use Rattle.crs_identity.specs.declared.malformed.Part.{Part}
use Rattle.crs_identity.specs.declared.malformed.Part.TheVariants.{«Type», Name, Id, Item, BothIds}
use Rattle.geoparquet.specs.Findings.{Finding}
use Rattle.geoparquet.specs.Rules.{found_at, part_place}
use Rattle.geoparquet.specs.Versions.{is_judged}
use Rattle.geoparquet.specs.declared.code.GeoCode.TheVariants.{CrsMalformed}
use Rattle.geoparquet.specs.declared.finding.Version.{Version}

-- an object is PROJJSON where none of its parts is wrong
abbrev pub are_none : List Part → Bool
are_none [] = true
are_none (p ∷ ps) = false

abbrev pub is_projjson : Json → Bool
is_projjson j = are_none (malformed_parts j)

-- a value that is an object, and no PROJJSON
abbrev pub is_malformed : Option Json → Bool
is_malformed None = false
is_malformed (Some j) = is_object j && not (is_projjson j)

-- what stands at a part
abbrev pub id_at : ℕ → Json → Option Json
id_at n j = option_and_then (at n) (get (codes "ids") j)

abbrev pub standing : Part → Json → Option Json
standing «Type» j = get (codes "type") j
standing Name j = get (codes "name") j
standing Id j = get (codes "id") j
standing (Item n) j = id_at n j
standing BothIds j = get (codes "ids") j

abbrev pub malformed_finding : Text → Json → Part → Finding
malformed_finding key j p =
    found_at CrsMalformed (Some key) (part_place key (codes "crs") ++ pointer p) (standing p j) None

-- one for each part that is wrong
abbrev pub malformed_in : Text → Option Json → List Finding
malformed_in key None = []
malformed_in key (Some j) = if is_object j then map (malformed_finding key j) (malformed_parts j) else []

abbrev pub malformed_findings : Version → Text → Json → List Finding
malformed_findings version key j = if is_judged version then malformed_in key (get (codes "crs") j) else []
