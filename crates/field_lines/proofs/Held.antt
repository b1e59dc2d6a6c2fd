-- What is read is held, and what is held and has no float is read back from its compact text.
use Rattle.std.proofs.Common.{◌≡◌, ◌≤◌, ℕ, List, [], Bool, true, false, Some, IfSome, option_map, nat_cmp, is_lt, refl, ap, ◌∙◌, subst, arith, Ordering, Less}
use Rattle.field_lines.proofs.Terms.{match_ordering, ordering_reverse, slice_cmp, and_parts, or_parts, and_from, nat_list_cmp_total, IsUtf8-from_is_utf8, is_utf8-from_IsUtf8, is_utf8, Num, Data, number, array, object, Items, no_items, item, Members, no_members, member, put, depth, number_from, of_json, of_items, of_members, max_depth, read, number_text, outline, items_outline, members_outline, has_float, items_have_float, members_have_float, compact_text, Prints, reads_back, is_held_number, comes_first, is_held, items_are_held, members_are_held, held_parts}
use Rattle.fast_float.specs.Text.{Parts}
use Rattle.json.specs.Json as json
use Rattle.json.specs.Tree as tree
use Rattle.json.proofs.Printed.Decimals.{IsNumber-decimal, IsNumber-signed_decimal}
use Rattle.json.proofs.Printed.Tokens.{tokens-print}
use Rattle.json.proofs.Printed.Trees.{ArePrintable-json_tokens}
use Rattle.serde_json.specs.Read.{number_of}
use Rattle.serde_json.proofs.Numbers.{number_of-decimal, number_of-negative}
use Rattle.field_lines.proofs.Lean.{mapped, chained}
use Rattle.field_lines.proofs.Utf8.{AreUtf8, utf8_parts, texts_utf8}

-- ---- members that are put in stay in order

less : (o : Ordering) → is_lt o ≡ true → o ≡ Less
less o h = grind arith

turned : (k l : List ℕ) (o : Ordering) → slice_cmp nat_cmp k l ≡ o → slice_cmp nat_cmp l k ≡ ordering_reverse o
turned k l o e = nat_list_cmp_total.antisymm l k ∙ ap ordering_reverse e

first_of_put : (l k : List ℕ) (d : Data) (ms : Members) → slice_cmp nat_cmp l k ≡ Less → comes_first l ms ≡ true → comes_first l (put k d ms) ≡ true
first_of_put l k d ms here h = grind arith

-- a member is put before, in place of or after the first, as the keys compare
put_at : (o : Ordering) (k : List ℕ) (d : Data) (l : List ℕ) (e : Data) (ms : Members) → slice_cmp nat_cmp k l ≡ o → is_utf8 k ≡ true → is_held d ≡ true → members_are_held (member l e ms) ≡ true
    → members_are_held (put k d ms) ≡ true → members_are_held (match_ordering o (member k d (member l e ms)) (member l d ms) (member l e (put k d ms))) ≡ true
put_at o k d l e ms is text own h later = grind (arith, held_parts, first_of_put, turned)

pub put_held : (k : List ℕ) (d : Data) (ms : Members) → is_utf8 k ≡ true → is_held d ≡ true → members_are_held ms ≡ true → members_are_held (put k d ms) ≡ true
put_held k d no_members text own h = rw (text, own) refl
put_held k d (member l e ms) text own h = put_at (slice_cmp nat_cmp k l) k d l e ms refl text own h (put_held k d ms text own (held_parts l e ms h).3)

-- ---- what is read is held

abbrev IsHeldNumber : Num → Type 0
IsHeldNumber n = is_held_number n ≡ true

number_held : (s : List ℕ) → IfSome (number_of s) IsHeldNumber
unfolding number_of
number_held s = grind (arith, held)
  where
    held : (sign : Bool) (p : Parts) → IfSome (number_from sign p) IsHeldNumber
    held sign p = grind arith

mutual
  json_held : (j : json.Json) → AreUtf8 (tree.json_tokens j) → IfSome (of_json j) (λ d. is_held d ≡ true)
  json_held (json.number s) u = mapped _ number (number_of s) (number_held s) (λ n h. h)
  json_held (json.string s) u = is_utf8-from_IsUtf8 s u.0
  json_held (json.array js) u = mapped _ array (of_items js) (items_held js u.1) (λ ds h. h)
  json_held (json.object ms) u = mapped _ object (of_members ms no_members) (members_held ms no_members u.1 refl) (λ ms h. h)
  json_held _ u = refl

  items_held : (js : json.Items) → AreUtf8 (tree.items_tokens js) → IfSome (of_items js) (λ ds. items_are_held ds ≡ true)
  items_held json.no_items u = refl
  items_held (json.item j js) u =
      let p = utf8_parts (tree.json_tokens j) (tree.items_tokens js) u in
      chained _ (λ d. option_map (item d) (of_items js)) (of_json j) (json_held j p.0) (λ d h. mapped _ (item d) (of_items js) (items_held js p.1) (λ ds k. and_from _ _ h k))

  members_held : (js : json.Members) (found : Members) → AreUtf8 (tree.members_tokens js) → members_are_held found ≡ true → IfSome (of_members js found) (λ ms. members_are_held ms ≡ true)
  members_held json.no_members found u h = h
  members_held (json.member k j js) found u h =
      let p = utf8_parts (tree.json_tokens j) (tree.members_tokens js) u.1 in
      chained _ (λ d. of_members js (put k d found)) (of_json j) (json_held j p.0) (λ d own. members_held js (put k d found) p.1 (put_held k d found (is_utf8-from_IsUtf8 k u.0) own h))

-- what UTF-8 is read as is held
pub read_held : (text : List ℕ) (d : Data) → is_utf8 text ≡ true → read text ≡ Some d → is_held d ≡ true
read_held text d utf8 is = subst (λ o. IfSome o (λ d. is_held d ≡ true)) is (chained _ of_json _ (texts_utf8 max_depth text (IsUtf8-from_is_utf8 text utf8)) json_held)

-- ---- what is held is read back

rest_first : (k l : List ℕ) (ms : Members) → slice_cmp nat_cmp k l ≡ Less → comes_first l ms ≡ true → comes_first k ms ≡ true
rest_first k l ms first h = grind (arith, nat_list_cmp_total.trans k l, less)

integer_outline : (n : Num) → is_held_number n ≡ true → has_float (number n) ≡ false → (option_map number (number_of (number_text n)) ≡ Some (number n)) × tree.HasNumbers (json.number (number_text n))
integer_outline n h whole = grind (arith, number_of-decimal, IsNumber-decimal, number_of-negative, IsNumber-signed_decimal)

mutual
  outline_back : (d : Data) → is_held d ≡ true → has_float d ≡ false → (of_json (outline d) ≡ Some d) × tree.HasNumbers (outline d)
  outline_back (number n) h whole = integer_outline n h whole
  outline_back (array ds) h whole = let w = items_back ds h whole in (ap (option_map array) w.0, w.1)
  outline_back (object ms) h whole = let w = members_back ms h whole in (ap (option_map object) w.0, w.1)
  outline_back _ h whole = (refl, tt)

  items_back : (ds : Items) → items_are_held ds ≡ true → items_have_float ds ≡ false → (of_items (items_outline ds) ≡ Some ds) × tree.ItemsHaveNumbers (items_outline ds)
  items_back no_items h whole = (refl, tt)
  items_back (item d ds) h whole =
      let p = and_parts (is_held d) _ h in
      let w = or_parts (has_float d) _ whole in
      let first = outline_back d p.0 w.0 in
      let rest = items_back ds p.1 w.1 in
      (rw (first.0, rest.0), (first.1, rest.1))

  pub members_back : (ms : Members) → members_are_held ms ≡ true → members_have_float ms ≡ false → (of_members (members_outline ms) no_members ≡ Some ms) × tree.MembersHaveNumbers (members_outline ms)
  members_back no_members h whole = (refl, tt)
  members_back (member k d ms) h whole =
      let p = held_parts k d ms h in
      let w = or_parts (has_float d) _ whole in
      let first = outline_back d p.2 w.0 in
      let rest = members_back ms p.3 w.1 in
      (rw first.0 (after_first k d no_members ms p.0 p.3 w.1 ∙ ap (option_map (member k d)) rest.0), (first.1, rest.1))

  -- a member before all that come stays the first
  after_first : (k : List ℕ) (d : Data) (fs ms : Members) → comes_first k ms ≡ true → members_are_held ms ≡ true → members_have_float ms ≡ false
      → of_members (members_outline ms) (member k d fs) ≡ option_map (member k d) (of_members (members_outline ms) fs)
  after_first k d fs no_members before h whole = refl
  after_first k d fs (member l e ms) before h whole =
      let p = held_parts l e ms h in
      let w = or_parts (has_float e) _ whole in
      let first = less _ before in
      rw ((outline_back e p.2 w.0).0, turned k l Less first) (after_first k d _ ms (rest_first k l ms first p.0) p.3 w.1)

-- the compact text of a value that is held and holds no float is read as that value, if it nests no deeper than a text may
pub held_read_back : (d : Data) → is_held d ≡ true → has_float d ≡ false → depth d ≤ max_depth → read (compact_text d) ≡ Some d
held_read_back d held whole shallow =
    let w = outline_back d held whole in
    let ts = tree.json_tokens (outline d) in
    let prints : Prints d (record { before = []; tokens = []; spare = 0 }) (record { before = []; tokens = ts; spare = 0 }) =
    record { adds = record { tokens = refl; before = refl }; reads_back = w.0 } in
    reads_back d refl prints (tokens-print ts (ArePrintable-json_tokens (outline d) w.1)) shallow
