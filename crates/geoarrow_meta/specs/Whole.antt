-- JSON values with whole numbers, as `serde_json` holds them.
use Rattle.std.specs.Prelude.{◌^◌, ◌&&◌, pos, negsuc, Bool, true, false, nat_lt}
use Rattle.std.specs.Ordering.{nat_cmp, is_lt}
use Rattle.std.specs.Cmp.Lexicographic.{slice_cmp}
use Rattle.arrow_values.specs.Tree.{Text}
use Rattle.serde_json.specs.Data.{Num, unsigned, negative, float, Data, null, boolean, number, string, array, object, Items, no_items, item, Members, no_members, member}

-- whether `serde_json` holds the number as a 64-bit integer, unsigned or negative
abbrev pub is_integer : Num → Bool
is_integer (unsigned n) = nat_lt n (2 ^ 64)
is_integer (negative (pos n)) = false
is_integer (negative (negsuc n)) = nat_lt n (2 ^ 63)
is_integer (float x) = false

-- whether the key comes before that of the first member
abbrev pub is_before : Text → Members → Bool
is_before k no_members = true
is_before k (member l d ms) = is_lt (slice_cmp nat_cmp k l)

-- whether each number, at any depth, is such an integer, and the keys of each object ascend
abbrev mutual
  pub is_whole : Data → Bool
  is_whole null = true
  is_whole (boolean b) = true
  is_whole (number n) = is_integer n
  is_whole (string s) = true
  is_whole (array ds) = items_are_whole ds
  is_whole (object ms) = members_are_whole ms

  pub items_are_whole : Items → Bool
  items_are_whole no_items = true
  items_are_whole (item d ds) = is_whole d && items_are_whole ds

  pub members_are_whole : Members → Bool
  members_are_whole no_members = true
  members_are_whole (member k d ms) = is_before k ms && (is_whole d && members_are_whole ms)
