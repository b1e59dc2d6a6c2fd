-- Which JSON values say a field and nothing else: no key that a reader ignores and no empty metadata, at any depth.
use Rattle.std.specs.Prelude.{◌≡◌, ◌⊎◌, pos, List, [], ◌∷◌, Some, codes}
use Rattle.serde_json.specs.Data.{Data, number, array, object, Num, negative, Items, no_items, item, Members, no_members, member}
use Rattle.serde_json.specs.Find.{get_member}
use Rattle.arrow_values.specs.Tree.{Text}

-- the keys of a field, in the order of their bytes
abbrev pub field_keys : List Text
field_keys = codes "metadata" ∷ codes "name" ∷ codes "nullable" ∷ codes "type" ∷ []

-- the members have no other keys than these, in this order, each once at most
abbrev pub HaveKeysOf : List Text → Members → Type 0
HaveKeysOf ks no_members = Unit {0}
HaveKeysOf [] (member k d ms) = ⊥
HaveKeysOf (l ∷ ks) (member k d ms) = ((k ≡ l) × HaveKeysOf ks ms) ⊎ HaveKeysOf ks (member k d ms)

-- as `serde_json` holds a number: one with a sign is below zero
abbrev pub IsHeld : Num → Type 0
IsHeld (negative (pos n)) = ⊥
IsHeld _ = Unit {0}

abbrev mutual
  -- each object that is a field has the keys of a field alone, a lean type, and no empty metadata
  pub IsLean : Data → Type 0
  IsLean (object ms) = HaveKeysOf field_keys ms × HasLeanType ms × ¬ (get_member (codes "metadata") ms ≡ Some (object no_members))
  IsLean (array ds) = AreLean ds
  IsLean (number n) = IsHeld n
  IsLean _ = Unit {0}

  pub AreLean : Items → Type 0
  AreLean no_items = Unit {0}
  AreLean (item d ds) = IsLean d × AreLean ds

  -- what stands at the key `type` is lean
  pub HasLeanType : Members → Type 0
  HasLeanType no_members = Unit {0}
  HasLeanType (member k d ms) = (k ≡ codes "type" → IsLeanType d) × HasLeanType ms

  -- a type is lean where each value in its object is, at whatever key
  pub IsLeanType : Data → Type 0
  IsLeanType (object ms) = HasLeanValues ms
  IsLeanType _ = Unit {0}

  pub HasLeanValues : Members → Type 0
  HasLeanValues no_members = Unit {0}
  HasLeanValues (member k d ms) = IsLean d × HasLeanValues ms
