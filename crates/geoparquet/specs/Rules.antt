-- What is found where a rule is not kept (docs/FORMAT.md, 5).
use Rattle.std.specs.Prelude.{List, [], ◌∷◌, ◌++◌, ℕ, Bool, Option, None, Some, codes, length, option_map, if◌then◌else◌}
use Rattle.json.specs.Json.{Json, array, Items, no_items, item}
use Rattle.arrow_values.specs.Tree.{Text}
use Rattle.geoparquet.specs.Findings.{Finding, member_place, item_place, shown_value}
use Rattle.geoparquet.specs.declared.code.GeoCode.{GeoCode}
use Rattle.geoparquet.specs.declared.fact_sources.FactSource.{FactSource}
use Rattle.geoparquet.specs.declared.fact_sources.FactSource.TheVariants.{Geo}

-- the place of the member of `columns` with that key, and that of its own member with a name
abbrev pub column_place : Text → Text
column_place key = member_place (codes "/columns") key

abbrev pub part_place : Text → Text → Text
part_place key name = member_place (column_place key) name

-- what is found at a place in the metadata, as it is shown; and what the rule wants there
abbrev pub told_at : GeoCode → Option Text → Text → Option Text → Option Text → Finding
told_at code column place found wanted =
    record { code = code; column = column; source = Geo; pointer = place; found = found; wanted = wanted; more = 0 }

-- so what stands there, if something does
abbrev pub found_at : GeoCode → Option Text → Text → Option Json → Option Text → Finding
found_at code column place found wanted = told_at code column place (option_map shown_value found) wanted

-- what is found of a column in what its element or its field says, as it is shown
abbrev pub told_in : FactSource → GeoCode → Text → Option Text → Option Text → Finding
told_in source code key found wanted =
    record { code = code; column = Some key; source = source; pointer = []; found = found; wanted = wanted; more = 0 }

-- what is found of a member of a column's member
abbrev pub part_finding : GeoCode → Text → Text → Option Json → Finding
part_finding code key name found = found_at code (Some key) (part_place key name) found None

-- what is found of an item at a place of the column
abbrev pub item_finding : GeoCode → Text → Text → ℕ → Json → Finding
item_finding code key place index found = found_at code (Some key) (item_place place index) (Some found) None

-- the finding, unless the rule is kept
abbrev pub unless : Bool → Finding → List Finding
unless kept f = if kept then [] else f ∷ []

abbrev pub list_of : Items → List Json
list_of no_items = []
list_of (item j js) = j ∷ list_of js

-- the items of a value that is an array
abbrev pub items_in : Option Json → Option (List Json)
items_in (Some (array js)) = Some (list_of js)
items_in _ = None

-- what is found of items that stand behind others, of which each is to keep a rule that looks at those before it too
abbrev pub items_findings : (List Json → Json → Bool) → GeoCode → Text → Text → List Json → List Json → List Finding
items_findings keeps code key place before [] = []
items_findings keeps code key place before (j ∷ js) =
    unless (keeps before j) (item_finding code key place (length before) j)
    ++ items_findings keeps code key place (before ++ j ∷ []) js
