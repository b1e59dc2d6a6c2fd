-- A CRS for people.
use Rattle.std.specs.Prelude.{[], ◌++◌, codes, Option, None, Some, option_map, unwrap_or}
use Rattle.json.specs.Json.{Json}
use Rattle.serde_json.specs.Data.{Data, string}
use Rattle.serde_json.specs.Find.{get}
use Rattle.serde_json.specs.Read.{of_json}
use Rattle.arrow_values.specs.Tree.{Text}
use Rattle.geoparquet.specs.Facts.{FactsOf}
use Rattle.geoparquet.specs.Values.{at, text_of_value}
use Rattle.geoparquet.specs.Identifiers.{code_text}
use Rattle.file_check.specs.Table.{cut}
use Rattle.file_check.specs.Shown.{shown, blanked}

-- a member of the id of a PROJJSON
abbrev pub in_id : Text → Data → Option Data
in_id key crs = at key (get (codes "id") crs)

-- the code of an id, which is a text or a whole number
abbrev pub code_shown : Option Text → Text
code_shown (Some code) = shown code
code_shown None = codes "?"

-- an authority with its code, if there is one
abbrev pub identifier_shown : Text → Option Data → Text
identifier_shown authority None = shown authority
identifier_shown authority (Some code) = shown authority ++ (codes ":" ++ code_shown (code_text (Some code)))

-- the name of a CRS, if it has one
abbrev pub name_shown : Option Text → Text
name_shown (Some name) = blanked name
name_shown None = codes "a CRS"

-- a CRS that is no text: by the authority in its id, if it has one, and else by its name
abbrev pub value_shown : Data → Option Text → Text
value_shown crs (Some authority) = identifier_shown authority (in_id (codes "code") crs)
value_shown crs None = name_shown (text_of_value (get (codes "name") crs))

-- a CRS in full: a text itself, any other value as above, and nothing where there is none
abbrev pub crs_shown : Option Data → Text
crs_shown None = []
crs_shown (Some (string text)) = blanked text
crs_shown (Some crs) = value_shown crs (text_of_value (in_id (codes "authority") crs))

-- a CRS as the cell of a table
abbrev pub crs_name : Option Data → Text
crs_name crs = cut (crs_shown crs)

-- the CRS that counts: nothing where no source says any, and `unknown` where it is not known
abbrev pub value_name : Option Json → Text
value_name None = codes "unknown"
value_name (Some j) = crs_name (of_json j)

abbrev pub crs_that_counts : FactsOf → Text
crs_that_counts fs = unwrap_or (option_map (λ f. value_name f.crs) fs.crs) []

-- the edges that count, which are planar where no source says any, as the cell of a table
abbrev pub edges_that_count : FactsOf → Text
edges_that_count fs = cut (shown (unwrap_or (option_map (λ f. f.edges) fs.edges) (codes "planar")))
