-- Equality of JSON values: members in any order, of a repeated key the last value, numbers as decimals.
use Rattle.std.specs.Prelude.{◌&&◌, ◌||◌, ℕ, List, Bool, true, false, bytes_eq, Option, Some, None}
use Rattle.std.specs.Bool.{beq}
use Rattle.json.specs.Json.{Json, null, boolean, number, string, array, object, Items, no_items, item, Members, no_members, member}
use Rattle.json.specs.Find.{get}
use Rattle.crs_identity.specs.Decimals.{are_equal_numbers}

-- the test holds of a value that is there
abbrev pub holds_of : (Json → Bool) → Option Json → Bool
holds_of p None = false
holds_of p (Some j) = p j

abbrev pub has_key : List ℕ → Members → Bool
has_key k no_members = false
has_key k (member l j ms) = bytes_eq l k || has_key k ms

-- each key of the first members is one of the others
abbrev pub has_keys : Members → Members → Bool
has_keys no_members ns = true
has_keys (member k j ms) ns = has_key k ns && has_keys ms ns

abbrev mutual
  pub json_equal : Json → Json → Bool
  json_equal null null = true
  json_equal (boolean b) (boolean c) = beq b c
  json_equal (number s) (number t) = are_equal_numbers s t
  json_equal (string s) (string t) = bytes_eq s t
  json_equal (array is) (array js) = equal_items is js
  json_equal (object ms) (object ns) = has_keys ns ms && equal_members ms (object ns)
  json_equal _ _ = false

  pub equal_items : Items → Items → Bool
  equal_items no_items no_items = true
  equal_items (item i is) (item j js) = json_equal i j && equal_items is js
  equal_items _ _ = false

  -- each member that is the last of its key has an equal one in the object
  pub equal_members : Members → Json → Bool
  equal_members no_members o = true
  equal_members (member k j ms) o = (has_key k ms || holds_of (json_equal j) (get k o)) && equal_members ms o
