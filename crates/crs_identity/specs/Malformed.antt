-- What makes an object no PROJJSON (PROJJSON's schema 0.5).
use Rattle.std.specs.Prelude.{◌&&◌, ◌||◌, ◌+◌, not, ℕ, List, [], ◌∷◌, ◌++◌, Bool, false, bytes_eq, codes, decimal, if◌then◌else◌, Option, Some, None, is_some, option_and_then}
use Rattle.json.specs.Json.{Json, array, Items, no_items, item}
use Rattle.json.specs.Find.{get, as_str}
use Rattle.crs_identity.specs.Identifiers.{Text, authority_of, code_of}
use Rattle.crs_identity.specs.Classes.{type_of}
use Rattle.crs_identity.specs.declared.malformed.Part.{Part}
use Rattle.crs_identity.specs.declared.malformed.Part.TheVariants.{«Type», Name, Id, Item, BothIds}

-- the names that `Derived` may stand before
abbrev pub is_plain_type : Text → Bool
is_plain_type s =
    (bytes_eq s (codes "GeodeticCRS") || (bytes_eq s (codes "GeographicCRS") || bytes_eq s (codes "ProjectedCRS")))
    || ((bytes_eq s (codes "VerticalCRS") || bytes_eq s (codes "EngineeringCRS"))
    || (bytes_eq s (codes "ParametricCRS") || bytes_eq s (codes "TemporalCRS")))

abbrev pub is_derived_type : Text → Bool
is_derived_type s =
    (bytes_eq s (codes "DerivedGeodeticCRS") || (bytes_eq s (codes "DerivedGeographicCRS") || bytes_eq s (codes "DerivedProjectedCRS")))
    || ((bytes_eq s (codes "DerivedVerticalCRS") || bytes_eq s (codes "DerivedEngineeringCRS"))
    || (bytes_eq s (codes "DerivedParametricCRS") || bytes_eq s (codes "DerivedTemporalCRS")))

-- the two that need no name
abbrev pub is_nameless_type : Text → Bool
is_nameless_type s = bytes_eq s (codes "BoundCRS") || bytes_eq s (codes "CoordinateMetadata")

abbrev pub needs_name : Text → Bool
needs_name s = is_plain_type s || (is_derived_type s || bytes_eq s (codes "CompoundCRS"))

abbrev pub is_type : Text → Bool
is_type s = needs_name s || is_nameless_type s

abbrev pub has_text : Text → Json → Bool
has_text key j = is_some (option_and_then as_str (get key j))

abbrev pub is_identifier : Json → Bool
is_identifier j = is_some (authority_of j) && is_some (code_of j)

-- a value that is there and no identifier
abbrev pub is_no_identifier : Option Json → Bool
is_no_identifier None = false
is_no_identifier (Some j) = not (is_identifier j)

abbrev pub part_if : Bool → Part → List Part
part_if wrong part = if wrong then part ∷ [] else []

-- the items, of which the first is that many behind the start, that are no identifiers
abbrev pub wrong_items : ℕ → Items → List Part
wrong_items n no_items = []
wrong_items n (item j js) = part_if (not (is_identifier j)) (Item n) ++ wrong_items (n + 1) js

abbrev pub wrong_ids : Option Json → List Part
wrong_ids (Some (array js)) = wrong_items 0 js
wrong_ids o = []

-- the parts that are wrong, in this order
abbrev pub malformed_parts : Json → List Part
malformed_parts j =
    part_if (not (is_type (type_of j))) «Type»
    ++ (part_if (needs_name (type_of j) && not (has_text (codes "name") j)) Name
    ++ (part_if (is_no_identifier (get (codes "id") j)) Id
    ++ (wrong_ids (get (codes "ids") j)
    ++ part_if (is_some (get (codes "id") j) && is_some (get (codes "ids") j)) BothIds)))

-- where a part stands in the object (RFC 6901)
abbrev pub pointer : Part → Text
pointer «Type» = codes "/type"
pointer Name = codes "/name"
pointer Id = codes "/id"
pointer (Item n) = codes "/ids/" ++ decimal n
pointer BothIds = codes "/ids"
