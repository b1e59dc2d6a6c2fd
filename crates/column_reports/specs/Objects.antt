-- JSON values, made of their parts.
use Rattle.std.specs.Prelude.{ℕ, List, [], ◌∷◌, decimal, flat_map, Option, None, Some, option_map}
use Rattle.json.specs.Token.{Token, key}
use Rattle.json.specs.Json.{Json, array, number, object, string, Items, no_items, item, Members, no_members, member}
use Rattle.json.specs.Tree.{json_tokens}
use Rattle.json.specs.Written.{Written}
use Rattle.arrow_values.specs.Tree.{Text}
use Rattle.value_tokens.specs.Adds.{Adds}

-- an array of these values, in this order
abbrev pub items_from : List Json → Items
items_from [] = no_items
items_from (j ∷ js) = item j (items_from js)

abbrev pub array_of : List Json → Json
array_of js = array (items_from js)

-- an object of these members, each a key and its value, in this order
abbrev pub members_from : List (Text × Json) → Members
members_from [] = no_members
members_from (m ∷ ms) = member m.0 m.1 (members_from ms)

abbrev pub object_of : List (Text × Json) → Json
object_of ms = object (members_from ms)

-- the member, if there is a value
abbrev pub member_if : Text → Option Json → List (Text × Json)
member_if k None = []
member_if k (Some j) = (k, j) ∷ []

-- a member whose value is a string, or a number, if there is one
abbrev pub string_if : Text → Option Text → List (Text × Json)
string_if k text = member_if k (option_map string text)

abbrev pub number_if : Text → Option ℕ → List (Text × Json)
number_if k n = member_if k (option_map (λ m. number (decimal m)) n)

-- ---- while they are written

-- the tokens of a member
abbrev pub member_tokens : Text × Json → List Token
member_tokens m = key m.0 ∷ json_tokens m.1

-- the tokens of each were added, one after another
pub record AddsEach {A : Type 0} (tokens_of : A → List Token) (xs : List A) (old new : Written) : Type 0 where
  pub all : Adds (flat_map tokens_of xs) old new

abbrev pub AddsMembers : List (Text × Json) → Written → Written → Type 0
AddsMembers ms old new = AddsEach member_tokens ms old new

abbrev pub AddsValues : List Json → Written → Written → Type 0
AddsValues js old new = AddsEach json_tokens js old new
