-- What a call leaves in the caller's buffer.
use Rattle.std.specs.Prelude.{◌≡◌, ℕ, ◌<◌, ◌≤◌, ◌++◌, length, drop}
use Rattle.geoarrow_fields.specs.Lines.{Bytes}

-- the text stands at the front of the buffer, and what is behind it is unchanged
abbrev pub Fills : Bytes → Bytes → Bytes → Type 0
Fills text old new = (length text ≤ length old) × (new ≡ text ++ drop (length text) old)

-- the buffer has no room for the text, and is unchanged
abbrev pub Lacks : Bytes → Bytes → Bytes → Type 0
Lacks text old new = (length old < length text) × (new ≡ old)

-- a text of which this holds has that length, and this is done with it
pub record Makes (Is : Bytes → Type 0) (len : ℕ) (Done : Bytes → Type 0) : Type 0 where
  pub text : Bytes
  pub is : Is text
  pub len_is : length text ≡ len
  pub done : Done text
