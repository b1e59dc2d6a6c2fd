-- Of what three sources say of one fact, the first pair that does not go together (docs/FORMAT.md, 5.1).
use Rattle.std.specs.Prelude.{◌++◌, Bool, false, not, List, [], ◌∷◌, codes, bytes_eq, Option, None, Some, option_map, if◌then◌else◌}
use Rattle.json.specs.Json.{string}
use Rattle.arrow_values.specs.Tree.{Text}
use Rattle.geoparquet.specs.Findings.{Finding, shown_value}
use Rattle.geoparquet.specs.Rules.{part_place, told_at, told_in}
use Rattle.geoparquet.specs.declared.code.GeoCode.{GeoCode}
use Rattle.geoparquet.specs.declared.fact_sources.FactSource.TheVariants.{Field}
use Rattle.geoparquet.specs.declared.pairs.Defaults.{Defaults}
use Rattle.geoparquet.specs.declared.pairs.Pair.{Pair}
use Rattle.geoparquet.specs.declared.pairs.Pair.TheVariants.{ElementGeo, ElementField, FieldGeo}

-- the first pair of which something holds
abbrev pub first_pair : Bool → Bool → Bool → Option Pair
first_pair element_geo element_field field_geo =
    if element_geo then Some ElementGeo else (if element_field then Some ElementField else (if field_geo then Some FieldGeo else None))

-- both are said, and are not one
abbrev pub differ : Option Text → Option Text → Bool
differ None b = false
differ (Some a) None = false
differ (Some a) (Some b) = not (bytes_eq a b)

-- the first pair of the texts of the element, the field and `geo` that are not one
abbrev pub texts_pair : Option Text → Option Text → Option Text → Option Pair
texts_pair element field said = first_pair (differ element said) (differ element field) (differ field said)

-- what a source says, with its name
abbrev pub of_element : Text → Text
of_element s = s ++ codes " of the element"

abbrev pub of_field : Text → Text
of_field s = s ++ codes " of the field"

-- and where that is the default of the format
abbrev pub by_default : Text → Text
by_default s = s ++ codes ", the default"

-- what is found of a pair, by what `geo`, the element and the field say, and how the field says it as one that is wanted:
-- of a pair with `geo` at its place there, of another in what the field says; what is found is of the second of the pair, what is wanted of the first
abbrev pub pair_findings : GeoCode → Text → Text → Option Text → Option Text → Option Text → Option Text → Option Pair → List Finding
pair_findings code key name found element field own None = []
pair_findings code key name found element field own (Some ElementGeo) =
    told_at code (Some key) (part_place key name) found (option_map of_element element) ∷ []
pair_findings code key name found element field own (Some ElementField) =
    told_in Field code key field (option_map of_element element) ∷ []
pair_findings code key name found element field own (Some FieldGeo) =
    told_at code (Some key) (part_place key name) found (option_map of_field own) ∷ []

-- a text as it is found, as JSON, and as it is wanted; and one that is the default
abbrev pub found_word : Bool → Text → Text
found_word default s = if default then by_default s else shown_value (string s)

abbrev pub wanted_word : Bool → Text → Text
wanted_word default s = if default then by_default s else s

-- of texts
abbrev pub text_findings : GeoCode → Text → Text → Defaults → Option Text → Option Text → Option Text → List Finding
text_findings code key name ds element field said =
    pair_findings code key name (option_map (found_word ds.geo) said) (option_map (wanted_word ds.element) element)
    (option_map (found_word ds.field) field) (option_map (wanted_word ds.field) field) (texts_pair element field said)
