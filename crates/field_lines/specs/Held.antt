-- JSON values as `serde_json` holds those that it reads from UTF-8.
use Rattle.std.proofs.Common.{arith}
use Rattle.std.specs.Prelude.{◌≡◌, ◌^◌, ◌&&◌, pos, negsuc, List, ℕ, Bool, true, false, nat_lt}
use Rattle.std.specs.Ordering.{nat_cmp, is_lt}
use Rattle.std.specs.Cmp.Lexicographic.{slice_cmp}
use Rattle.std.specs.Str.{is_utf8}
use Rattle.serde_json.specs.Data.{Num, unsigned, negative, float, Data, null, boolean, number, string, array, object, Items, no_items, item, Members, no_members, member}

-- whether the number is a float, or an integer of 64 bits, which has a sign only if it is below zero
abbrev pub is_held_number : Num → Bool
is_held_number (unsigned n) = nat_lt n (2 ^ 64)
is_held_number (negative (pos n)) = false
is_held_number (negative (negsuc n)) = nat_lt n (2 ^ 63)
is_held_number (float x) = true

-- whether the key comes before that of the first member
abbrev pub comes_first : List ℕ → Members → Bool
comes_first k no_members = true
comes_first k (member l d ms) = is_lt (slice_cmp nat_cmp k l)

-- whether, at any depth, the numbers are such numbers, texts and keys are UTF-8, and the keys of each object ascend
abbrev mutual
  pub is_held : Data → Bool
  is_held null = true
  is_held (boolean b) = true
  is_held (number n) = is_held_number n
  is_held (string s) = is_utf8 s
  is_held (array ds) = items_are_held ds
  is_held (object ms) = members_are_held ms

  pub items_are_held : Items → Bool
  items_are_held no_items = true
  items_are_held (item d ds) = is_held d && items_are_held ds

  pub members_are_held : Members → Bool
  members_are_held no_members = true
  members_are_held (member k d ms) = comes_first k ms && (is_utf8 k && (is_held d && members_are_held ms))

-- the parts of members that are held: the first key before the others, the key, its value, and the others
pub held_parts : (k : List ℕ) (d : Data) (ms : Members) → members_are_held (member k d ms) ≡ true → (comes_first k ms ≡ true) × (is_utf8 k ≡ true) × (is_held d ≡ true) × (members_are_held ms ≡ true)
held_parts k d ms h = grind arith
