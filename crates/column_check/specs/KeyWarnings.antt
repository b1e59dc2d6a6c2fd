-- Keys of extension metadata that are those of the format but for their letters, and edges that are planar by name
-- (GeoArrow, "Extension metadata").
use Rattle.std.specs.Prelude.{◌&&◌, ◌||◌, not, List, [], ◌∷◌, ◌++◌, bytes_eq, codes, Bool, Option, None, Some, if◌then◌else◌}
use Rattle.std.specs.Str.{str_to_ascii_lowercase}
use Rattle.json.specs.Json.{Json, object, Members, no_members, member}
use Rattle.serde_json.specs.Data.{Data}
use Rattle.serde_json.specs.Read.{read}
use Rattle.arrow_values.specs.Tree.{Text}
use Rattle.crs_identity.specs.Forms.{json_in}
use Rattle.column_check.specs.Parts.{Spot, spot_in}
use Rattle.column_check.specs.Metadata.{are_planar}
use Rattle.column_check.specs.Said.{Said, said_if, at_each}
use Rattle.column_check.specs.declared.code.WarningCode.TheVariants.{MetadataKeyCase, EdgesPlanar}

-- the keys of the format
abbrev pub is_key : Text → Bool
is_key k = bytes_eq k (codes "crs") || (bytes_eq k (codes "crs_type") || bytes_eq k (codes "edges"))

-- the key is one of the format but for its letters
abbrev pub is_other_case : Text → Bool
is_other_case k = is_key (str_to_ascii_lowercase k) && not (is_key k)

-- where such a key stands; it has no letter that a pointer writes otherwise
abbrev pub key_spot : Text → List Spot
key_spot k = if is_other_case k then spot_in (codes "/" ++ k) (Some k) ∷ [] else []

abbrev pub key_spots : Members → List Spot
key_spots no_members = []
key_spots (member k j ms) = key_spot k ++ key_spots ms

abbrev pub spots_in : Option Json → List Spot
spots_in (Some (object ms)) = key_spots ms
spots_in o = []

-- edges that are planar by name, which are shown as JSON
abbrev pub edges_warnings : Option Data → List Said
edges_warnings o = said_if EdgesPlanar (are_planar o) (spot_in (codes "/edges") (Some (codes "\"planar\"")))

-- of a metadata text
abbrev pub key_warnings : Option Text → List Said
key_warnings None = []
key_warnings (Some s) = at_each MetadataKeyCase (spots_in (json_in s)) ++ edges_warnings (read s)
