-- Whether the coordinates of a CRS are geographic or projected.
use Rattle.std.specs.Prelude.{ℕ, zero, suc, List, [], ◌∷◌, Bool, true, false, ◌||◌, bytes_eq, codes, if◌then◌else◌, Option, Some, None, option_and_then}
use Rattle.json.specs.Json.{Json, string}
use Rattle.json.specs.Find.{get, at}
use Rattle.crs_identity.specs.Identifiers.{Text, in_small, is_paired}
use Rattle.crs_identity.specs.Tokens.{Lexeme, word}
use Rattle.crs_identity.specs.Forms.{Form, projjson, code, wkt, number, other}
use Rattle.crs_identity.specs.declared.class.Class.{Class}
use Rattle.crs_identity.specs.declared.class.Class.TheVariants.{Geographic, Projected}

-- ---- of PROJJSON

abbrev pub is_geographic_type : Text → Bool
is_geographic_type s =
    (bytes_eq s (codes "GeographicCRS") || bytes_eq s (codes "GeodeticCRS"))
    || (bytes_eq s (codes "DerivedGeographicCRS") || bytes_eq s (codes "DerivedGeodeticCRS"))

abbrev pub is_projected_type : Text → Bool
is_projected_type s = bytes_eq s (codes "ProjectedCRS") || bytes_eq s (codes "DerivedProjectedCRS")

abbrev pub class_of_type : Text → Option Class
class_of_type s = if is_geographic_type s then Some Geographic else (if is_projected_type s then Some Projected else None)

-- the text at `type`; empty where there is none
abbrev pub text_or_empty : Option Json → Text
text_or_empty (Some (string s)) = s
text_or_empty o = []

abbrev pub type_of : Json → Text
type_of j = text_or_empty (get (codes "type") j)

abbrev pub first_component : Json → Option Json
first_component j = option_and_then (at 0) (get (codes "components") j)

-- within so many levels: a CompoundCRS is of the class of its first component, a BoundCRS of that of its source
unfoldable pub class_within : ℕ → Json → Option Class
class_within zero j = None
class_within (suc levels) j =
    if bytes_eq (type_of j) (codes "CompoundCRS") then option_and_then (class_within levels) (first_component j) else
    (if bytes_eq (type_of j) (codes "BoundCRS") then option_and_then (class_within levels) (get (codes "source_crs") j) else
    class_of_type (type_of j))

-- no value that is read nests deeper
abbrev pub max_levels : ℕ
max_levels = 128

-- ---- of WKT, by its first word

abbrev pub is_geographic : Text → Bool
is_geographic s =
    bytes_eq s (codes "geogcrs") || (bytes_eq s (codes "geodcrs")
    || (bytes_eq s (codes "geographiccrs") || (bytes_eq s (codes "geodeticcrs") || bytes_eq s (codes "geogcs"))))

abbrev pub is_projected : Text → Bool
is_projected s = bytes_eq s (codes "projcrs") || (bytes_eq s (codes "projectedcrs") || bytes_eq s (codes "projcs"))

abbrev pub class_of_word : Text → Option Class
class_of_word s = if is_geographic s then Some Geographic else (if is_projected s then Some Projected else None)

abbrev pub class_of_wkt : List Lexeme → Option Class
class_of_wkt (word s ∷ ls) = class_of_word (in_small s)
class_of_wkt ls = None

-- ---- of a form

abbrev pub class_of : Form → Option Class
class_of (projjson j) = class_within max_levels j
class_of (code n) = if is_paired n then Some Geographic else None
class_of (wkt ls) = class_of_wkt ls
class_of (number j) = None
class_of (other j) = None

-- both have a class, and not the same
abbrev pub classes_differ : Option Class → Option Class → Bool
classes_differ (Some Geographic) (Some Projected) = true
classes_differ (Some Projected) (Some Geographic) = true
classes_differ c d = false
