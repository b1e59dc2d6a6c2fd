-- Identifiers of a CRS: an authority, and its code for the CRS.
use Rattle.std.specs.Prelude.{◌&&◌, ℕ, List, [], ◌∷◌, ◌++◌, map, Bool, bytes_eq, codes, if◌then◌else◌, Option, Some, None, is_some, option_map, option_and_then}
use Rattle.std.specs.Char.{is_ascii_digit, to_ascii_lowercase}
use Rattle.std.specs.List.{list_all, list_any}
use Rattle.json.specs.Json.{Json, number, array, Items, no_items, item}
use Rattle.json.specs.Find.{get, as_str}
use Rattle.crs_identity.specs.declared.identifiers.Identifier.{Identifier}

abbrev pub Text : Type 0
Text = List ℕ

-- an identifier, in small letters, since ASCII letters are alike
pub record Name : Type 0 where
  pub authority : Text
  pub code : Text

abbrev pub in_small : Text → Text
in_small s = map to_ascii_lowercase s

abbrev pub named : Text → Text → Name
named authority code = record { authority = in_small authority; code = in_small code }

abbrev pub name_of : Identifier → Name
name_of i = record { authority = i.authority.items; code = i.code.items }

abbrev pub is_same : Name → Name → Bool
is_same m n = bytes_eq m.authority n.authority && bytes_eq m.code n.code

-- ---- the table of pairs

-- codes of OGC, and the code of EPSG beside each: one CRS, as GeoArrow and GeoParquet override the order of axes
abbrev pub pairs : List (Text × Text)
pairs =
    (codes "crs84", codes "4326") ∷
    (codes "crs84h", codes "4979") ∷
    (codes "crs83", codes "4269") ∷
    (codes "crs27", codes "4267") ∷ []

abbrev pub second_of : Text → List (Text × Text) → Option Text
second_of c [] = None
second_of c (p ∷ ps) = if bytes_eq c p.0 then Some p.1 else second_of c ps

abbrev pub first_of : Text → List (Text × Text) → Option Text
first_of c [] = None
first_of c (p ∷ ps) = if bytes_eq c p.1 then Some p.0 else first_of c ps

abbrev pub of_epsg : Text → Name
of_epsg c = record { authority = codes "epsg"; code = c }

abbrev pub of_ogc : Text → Name
of_ogc c = record { authority = codes "ogc"; code = c }

-- the other one of a pair
abbrev pub paired : Name → Option Name
paired n =
    if bytes_eq n.authority (codes "ogc") then option_map of_epsg (second_of n.code pairs) else
    (if bytes_eq n.authority (codes "epsg") then option_map of_ogc (first_of n.code pairs) else None)

abbrev pub is_paired : Name → Bool
is_paired n = is_some (paired n)

abbrev pub listed : Option Name → List Name
listed None = []
listed (Some n) = n ∷ []

-- an identifier, if there is one, and the one that is paired with it
abbrev pub with_pair : Option Name → List Name
with_pair None = []
with_pair (Some n) = n ∷ listed (paired n)

-- ---- the identifiers of PROJJSON

-- a code: a text, or the digits of a whole number
abbrev pub code_text : Json → Option Text
code_text (number s) = if list_all is_ascii_digit s then Some s else None
code_text j = as_str j

-- of an authority and a code, if both are there
abbrev pub of_both : Option Text → Option Text → Option Name
of_both (Some authority) (Some code) = Some (named authority code)
of_both _ _ = None

abbrev pub authority_of : Json → Option Text
authority_of j = option_and_then as_str (get (codes "authority") j)

abbrev pub code_of : Json → Option Text
code_of j = option_and_then code_text (get (codes "code") j)

-- of an object with `authority` and `code`
abbrev pub identifier_of : Json → Option Name
identifier_of j = of_both (authority_of j) (code_of j)

abbrev pub identifier_in : Option Json → Option Name
identifier_in o = option_and_then identifier_of o

abbrev pub of_items : Items → List Name
of_items no_items = []
of_items (item j js) = with_pair (identifier_of j) ++ of_items js

abbrev pub of_array : Option Json → List Name
of_array (Some (array js)) = of_items js
of_array o = []

-- that of `id`, and those of the items of `ids`
abbrev pub projjson_identifiers : Json → List Name
projjson_identifiers j = with_pair (identifier_in (get (codes "id") j)) ++ of_array (get (codes "ids") j)

-- ---- comparing

abbrev pub has_name : List Name → Name → Bool
has_name ns m = list_any (is_same m) ns

-- whether both have an identifier in common
abbrev pub share_identifier : List Name → List Name → Bool
share_identifier ms ns = list_any (has_name ns) ms

abbrev pub has_authority : List Name → Name → Bool
has_authority ns m = list_any (λ n. bytes_eq m.authority n.authority) ns

-- whether an identifier of each has the same authority
abbrev pub share_authority : List Name → List Name → Bool
share_authority ms ns = list_any (has_authority ns) ms
