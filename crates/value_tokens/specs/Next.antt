-- What a reader of tokens has next, as `serde_json` reads it.
use Rattle.std.specs.Prelude.{◌≡◌, ℕ, List, length, ◌<◌, Option, Some, None, option_map, option_and_then}
use Rattle.json.specs.Token.{Token}
use Rattle.json.specs.Json.{items, members, value, parse_map}
use Rattle.serde_json.specs.Data.{Data, Items, Members, no_members, put, array, object}
use Rattle.serde_json.specs.Read.{of_json, of_items, of_members, converted}
use Rattle.serde_json.specs.Find.{as_object, as_array}

-- the value that is next, nested at most that deep, and the tokens after it
abbrev pub next_value : ℕ → List Token → Option (Data × List Token)
next_value depth ts = converted of_json (value depth ts)

-- the items that are left of an array, and the tokens after it
abbrev pub next_items : ℕ → List Token → Option (Items × List Token)
next_items depth ts = converted of_items (items (value depth) (length ts) ts)

-- the members that are left of an object, put into those already found, and the tokens after it
abbrev pub next_members : ℕ → Members → List Token → Option (Members × List Token)
next_members depth found ts = converted (λ ms. of_members ms found) (members (value depth) (length ts) ts)

-- the same after a key was read: its value is next, and then the members that are left
abbrev pub next_after : ℕ → Members → List ℕ → List Token → Option (Members × List Token)
next_after depth found k ts = option_and_then (λ p. next_members depth (put k p.0 found) p.1) (next_value depth ts)

-- only the tokens after it
abbrev pub after : {A : Type 0} → Option (A × List Token) → Option (List Token)
after next = option_map (λ p. p.1) next

-- the next value was read, and the answer is f of it
abbrev pub ReadsValue : {A : Type 0} → (Data → A) → ℕ → List Token → A → List Token → Type 0
ReadsValue f depth old answer new = (d : Data) × (next_value depth old ≡ Some (d, new)) × (answer ≡ f d)

-- the members that are left were read, and the answer is f of them and those already found
abbrev pub ReadsMembers : {A : Type 0} → (Members → A) → ℕ → Members → List Token → A → List Token → Type 0
ReadsMembers f depth found old answer new = (ms : Members) × (next_members depth found old ≡ Some (ms, new)) × (answer ≡ f ms)

-- the same after a key was read
abbrev pub ReadsAfter : {A : Type 0} → (Members → A) → ℕ → Members → List ℕ → List Token → A → List Token → Type 0
ReadsAfter f depth found k old answer new = (ms : Members) × (next_after depth found k old ≡ Some (ms, new)) × (answer ≡ f ms)

-- the items that are left were read, and the answer is f of them
abbrev pub ReadsItems : {A : Type 0} → (Items → A) → ℕ → List Token → A → List Token → Type 0
ReadsItems f depth old answer new = (ds : Items) × (next_items depth old ≡ Some (ds, new)) × (answer ≡ f ds)

-- an object was opened, whose members may nest that deep; or a value of another kind was skipped
abbrev pub OpensObject : ℕ → List Token → Option ℕ → List Token → Type 0
OpensObject depth old (Some below) new = (next_value depth old ≡ parse_map object (next_members below no_members new)) × (below < depth)
OpensObject depth old None new = (d : Data) × (next_value depth old ≡ Some (d, new)) × (as_object d ≡ None)

-- the same for an array
abbrev pub OpensArray : ℕ → List Token → Option ℕ → List Token → Type 0
OpensArray depth old (Some below) new = (next_value depth old ≡ parse_map array (next_items below new)) × (below < depth)
OpensArray depth old None new = (d : Data) × (next_value depth old ≡ Some (d, new)) × (as_array d ≡ None)
