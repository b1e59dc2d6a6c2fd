-- A value whose numbers are whole is read back from its text, as deep as texts are read.
use Rattle.std.proofs.Common.{◌≡◌, negsuc, [], true, Option, None, Some, IfSome, option_map, Ordering, Less, nat_cmp, refl, sym, ap, ◌∙◌, ltb-true, true≢false}
use Rattle.std.proofs.lemmas.Bool.{and_parts}
use Rattle.std.proofs.lemmas.Cmp.{nat_list_cmp_total}
use Rattle.std.specs.Cmp.Lexicographic.{slice_cmp}
use Rattle.std.specs.Ordering.{is_lt, ordering_reverse}
use Rattle.json.specs.Json as json
use Rattle.json.specs.Tree as tree
use Rattle.json.proofs.Printed.Decimals.{IsNumber-decimal, IsNumber-signed_decimal}
use Rattle.json.proofs.Printed.Tokens.{tokens-print}
use Rattle.json.proofs.Printed.Trees.{ArePrintable-json_tokens}
use Rattle.arrow_values.specs.Tree.{Text}
use Rattle.serde_json.specs.Data.{Num, unsigned, negative, Data, number, array, object, Items, no_items, item, Members, no_members, member}
use Rattle.serde_json.specs.Read.{number_of, of_json, of_items, of_members, max_depth}
use Rattle.serde_json.specs.Written.{number_text, outline, items_outline, members_outline}
use Rattle.serde_json.proofs.Numbers.{number_of-decimal, number_of-negative}
use Rattle.value_tokens.specs.Adds.{Prints}
use Rattle.value_tokens.proofs.Printed.{reads_back}
use Rattle.geoarrow_meta.specs.declared.edges.Edges.{Edges}
use Rattle.geoarrow_meta.specs.declared.crs.crs_type.CrsType.{CrsType}
use Rattle.geoarrow_meta.specs.declared.metadata.Metadata.{Metadata}
use Rattle.geoarrow_meta.specs.Written.{of_parts, meta_value, IsReadBack, NestsWithin}
use Rattle.geoarrow_meta.proofs.Stands.{nests_within}
use Rattle.geoarrow_meta.specs.Whole.{is_integer, is_before, is_whole, items_are_whole, members_are_whole}

less : (o : Ordering) → is_lt o ≡ true → o ≡ Less
less Less h = refl
less _ h = absurd (true≢false (sym h))

before_rest : (k l : Text) (ms : Members) → slice_cmp nat_cmp k l ≡ Less → is_before l ms ≡ true → is_before k ms ≡ true
before_rest k l no_members first h = refl
before_rest k l (member m e ms) first h = ap is_lt (nat_list_cmp_total.trans k l m first (less _ h))

-- ---- the outline of a whole value has the texts of numbers, and is read as the value

whole_number : (n : Num) → is_integer n ≡ true → (option_map number (number_of (number_text n)) ≡ Some (number n)) × tree.HasNumbers (json.number (number_text n))
whole_number (unsigned n) h = (ap (option_map number) (number_of-decimal n (ltb-true _ _ h)), IsNumber-decimal n (ltb-true _ _ h))
whole_number (negative (negsuc n)) h = (ap (option_map number) (number_of-negative n (ltb-true _ _ h)), IsNumber-signed_decimal (negsuc n) (ltb-true _ _ h))
whole_number _ h = absurd (true≢false (sym h))

mutual
  whole_outline : (d : Data) → is_whole d ≡ true → (of_json (outline d) ≡ Some d) × tree.HasNumbers (outline d)
  whole_outline (number n) h = whole_number n h
  whole_outline (array ds) h = let w = whole_items ds h in (ap (option_map array) w.0, w.1)
  whole_outline (object ms) h = let w = whole_members ms h in (ap (option_map object) w.0, w.1)
  whole_outline _ h = (refl, tt)

  whole_items : (ds : Items) → items_are_whole ds ≡ true → (of_items (items_outline ds) ≡ Some ds) × tree.ItemsHaveNumbers (items_outline ds)
  whole_items no_items h = (refl, tt)
  whole_items (item d ds) h =
      let p = and_parts (is_whole d) _ h in
      let first = whole_outline d p.0 in
      let rest = whole_items ds p.1 in
      (rw (first.0, rest.0), (first.1, rest.1))

  whole_members : (ms : Members) → members_are_whole ms ≡ true → (of_members (members_outline ms) no_members ≡ Some ms) × tree.MembersHaveNumbers (members_outline ms)
  whole_members no_members h = (refl, tt)
  whole_members (member k d ms) h =
      let p = and_parts (is_before k ms) _ h in
      let q = and_parts (is_whole d) _ p.1 in
      let first = whole_outline d q.0 in
      let rest = whole_members ms q.1 in
      (rw first.0 (after_first k d no_members ms p.0 q.1 ∙ ap (option_map (member k d)) rest.0), (first.1, rest.1))

  -- a member before all that come stays the first
  after_first : (k : Text) (d : Data) (fs ms : Members) → is_before k ms ≡ true → members_are_whole ms ≡ true
      → of_members (members_outline ms) (member k d fs) ≡ option_map (member k d) (of_members (members_outline ms) fs)
  after_first k d fs no_members before h = refl
  after_first k d fs (member l e ms) before h =
      let p = and_parts (is_before l ms) _ h in
      let q = and_parts (is_whole e) _ p.1 in
      let first = less _ before in
      rw ((whole_outline e q.0).0, nat_list_cmp_total.antisymm l k ∙ ap ordering_reverse first) (after_first k d _ ms (before_rest k l ms first p.0) q.1)

-- the text of a whole value is read as that value
read_back : (o : Option Data) → IfSome o (λ d. is_whole d ≡ true) → NestsWithin max_depth o → IsReadBack o
read_back None whole shallow = tt
read_back (Some d) whole shallow =
    let w = whole_outline d whole in
    let ts = tree.json_tokens (outline d) in
    let prints : Prints d (record { before = []; tokens = []; spare = 0 }) (record { before = []; tokens = ts; spare = 0 }) =
    record { adds = record { tokens = refl; before = refl }; reads_back = w.0 } in
    reads_back d refl prints (tokens-print ts (ArePrintable-json_tokens (outline d) w.1)) shallow

-- ---- the value of a metadata is read

-- the value of a metadata whose CRS value is whole is whole
meta_value-whole : (v : Option Data) (t : Option CrsType) (e : Option Edges) → IfSome v (λ d. is_whole d ≡ true) → IfSome (meta_value (of_parts v t e)) (λ d. is_whole d ≡ true)
meta_value-whole None t None h = tt
meta_value-whole None None _ h = refl
meta_value-whole None _ _ h = refl
meta_value-whole (Some d) None None h = rw h refl
meta_value-whole (Some d) (Some t) None h = rw h refl
meta_value-whole _ _ _ h = rw h refl

-- a metadata with a whole CRS value nested at most 100 levels is written as a value that is read back
pub nested_read_back : (m : Metadata) → IfSome m.crs.value (λ d. is_whole d ≡ true) → NestsWithin 100 m.crs.value → IsReadBack (meta_value m)
nested_read_back m h k = read_back (meta_value m) (meta_value-whole m.crs.value m.crs.crs_type m.edges h) (nests_within m k)
