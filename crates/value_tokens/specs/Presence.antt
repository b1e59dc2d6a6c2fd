-- Which keys an object has.
use Rattle.std.specs.Prelude.{◌≡◌, ℕ, List, is_some, true}
use Rattle.serde_json.specs.Data.{Members}
use Rattle.serde_json.specs.Find.{get_member}

-- the object has the key
abbrev pub Has : List ℕ → Members → Type 0
Has q ms = is_some (get_member q ms) ≡ true
