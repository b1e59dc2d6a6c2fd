-- Which columns the metadata at `geo` name: by a member of `columns`, or by a path of a covering (GeoParquet, "Column Metadata").
use Rattle.std.specs.Prelude.{Bool, false, ◌||◌, List, codes, bytes_eq, Option, None, Some, option_and_then}
use Rattle.json.specs.Json.{Json, Members, no_members, member}
use Rattle.json.specs.Find.{get, at, as_str, as_object}
use Rattle.crs_identity.specs.Forms.{json_in}
use Rattle.arrow_values.specs.Tree.{Text}
use Rattle.parquet_footer.specs.Footer.{Pairing}
use Rattle.parquet_columns.specs.Keys.{value_of, value_text}
use Rattle.parquet_columns.specs.Findings.{geo_key}

-- the value at `geo`, where it is JSON
abbrev pub json_of : Option Text → Option Json
json_of text = option_and_then json_in text

abbrev pub geo_text : List Pairing → Option Text
geo_text ps = value_text (value_of geo_key ps)

-- the path of a bound begins with the name of the column
abbrev pub is_name : Text → Option Text → Bool
is_name name None = false
is_name name (Some s) = bytes_eq s name

abbrev pub is_bound_in : Text → Json → Text → Bool
is_bound_in name bbox bound = is_name name (option_and_then as_str (option_and_then (at 0) (get bound bbox)))

abbrev pub is_box_in : Text → Option Json → Bool
is_box_in name None = false
is_box_in name (Some bbox) =
    is_bound_in name bbox (codes "xmin") || is_bound_in name bbox (codes "ymin") || is_bound_in name bbox (codes "xmax")
    || is_bound_in name bbox (codes "ymax") || is_bound_in name bbox (codes "zmin") || is_bound_in name bbox (codes "zmax")

-- a path of the covering of a member of `columns` names the column
abbrev pub covers : Text → Json → Bool
covers name j = is_box_in name (option_and_then (get (codes "bbox")) (get (codes "covering") j))

-- a member of `columns` has the name, or its covering names the column
abbrev pub names_one : Text → Members → Bool
names_one name no_members = false
names_one name (member key j ms) = (bytes_eq key name || covers name j) || names_one name ms

abbrev pub names_in : Text → Option Members → Bool
names_in name None = false
names_in name (Some ms) = names_one name ms

abbrev pub is_named : Text → Option Json → Bool
is_named name geo = names_in name (option_and_then as_object (option_and_then (get (codes "columns")) geo))

-- the encoding that the member of its name gives a column
abbrev pub encoding_of : Text → Option Json → Option Text
encoding_of name geo = option_and_then as_str (option_and_then (get (codes "encoding")) (option_and_then (get name) (option_and_then (get (codes "columns")) geo)))

abbrev pub is_wkb : Text → Option Json → Bool
is_wkb name geo = is_name (codes "WKB") (encoding_of name geo)
