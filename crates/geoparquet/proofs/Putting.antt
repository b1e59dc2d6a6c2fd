-- Members that are put in the ascending order of their keys.
use Rattle.std.proofs.Common.{◌≡◌, ℕ, zero, suc, ◌+◌, ◌<◌, ◌≤◌, Bool, IfSome, option_map, subst, true, false, not, cond, ◌||◌, IsTrue, ◌↔◌, is_some, List, [], ◌∷◌, Option, None, Some, codes, bytes_eq, drop, get_or, length, option_and_then, refl, sym, ap, ◌∙◌, arith}
use Rattle.std.proofs.lemmas.List.{at_drop_more}
use Rattle.std.proofs.lemmas.Map.Text.{is_eq-slice_cmp}
use Rattle.std.specs.Borrow.{Bor}
use Rattle.std.specs.BTreeMap.{insert_entry, is_at}
use Rattle.std.specs.Cmp.Lexicographic.{slice_cmp}
use Rattle.std.specs.Ordering.{nat_cmp, match_ordering}
use Rattle.std.specs.declared.alloc.Global.{Global}
use Rattle.std.specs.declared.cmp.Ordering.{Ordering}
use Rattle.std.specs.declared.cmp.Ordering.TheVariants.{Less, Equal, Greater}
use Rattle.std.specs.Map.{lookup}
use Rattle.json.specs.Json.{Json, null, boolean, number, string, array, object, Items, no_items, item, Members, no_members, member}
use Rattle.json.specs.Find.{get, get_item, at, as_object}
use Rattle.json.specs.Tree.{depth, items_depth, members_depth, MembersHaveNumbers}
use Rattle.json.specs.Value.{members_view, value_view}
use Rattle.json.specs.declared.value.Value.{Value}
use Rattle.json.proofs.Numbered.{HasNumbers-get, HasNumbers-at}
use Rattle.serde_json.specs.Read.{max_depth}
use Rattle.arrow_values.specs.Tree.{Text}
use Rattle.value_tokens.specs.Values.{IsReadable}
use Rattle.geoparquet.specs.GeoFindings.{AreRead}
use Rattle.geoparquet.specs.Ordered.{are_some, columns_of, has_member, member_view, members_entries, members_in, put_member, put_members}
use Rattle.geoparquet.proofs.KeptMembers.{shallower}

abbrev pub Entry : Type 0
Entry = Bor Text × Bor (Value Global)

-- ---- one more member

inserted : (es : List Entry) (k : Bor Text) (v : Bor (Value Global)) → members_entries (insert_entry (λ x y. slice_cmp nat_cmp x.now y.now) es k v) ≡ put_member k.now (value_view v.now) (members_entries es)
inserted [] k v = refl
inserted (e ∷ es) k v = step (slice_cmp nat_cmp k.now e.0.now) (inserted es k v)
  where
    step : (o : Ordering) → members_entries (insert_entry (λ x y. slice_cmp nat_cmp x.now y.now) es k v) ≡ put_member k.now (value_view v.now) (members_entries es)
        → members_entries (match_ordering o ((k, v) ∷ e ∷ es) ((e.0, v) ∷ es) (e ∷ insert_entry (λ x y. slice_cmp nat_cmp x.now y.now) es k v))
        ≡ match_ordering o ((k.now, value_view v.now) ∷ member_view e ∷ members_entries es) ((e.0.now, value_view v.now) ∷ members_entries es) (member_view e ∷ put_member k.now (value_view v.now) (members_entries es))
    step Less rest = refl
    step Equal rest = refl
    step Greater rest = ap (λ ms. member_view e ∷ ms) rest

pub one_put : (ms : List (Bor Text × Value Global)) (i : ℕ) (m : Bor Text × Value Global) (v : Bor (Value Global)) (old new : List Entry) (whole : List (Text × Json)) → i < length ms → m ≡ get_or ms i m → v.now ≡ m.1
    → new ≡ insert_entry (λ x y. slice_cmp nat_cmp x.now y.now) old m.0 v → put_members (members_view (drop i ms)) (members_entries old) ≡ whole → put_members (members_view (drop (i + 1) ms)) (members_entries new) ≡ whole
one_put ms i m v old new whole lt is same put so_far =
    let later = λ (xs : List (Bor Text × Value Global)). put_members (members_view xs) (members_entries old) in
    let here = at_drop_more later ms i m lt ∙ ap (λ x. later (x ∷ drop (i + 1) ms)) (sym is) in
    ap (put_members (members_view (drop (i + 1) ms)))
    (ap members_entries put ∙ inserted old m.0 v ∙ ap (λ w. put_member m.0.now (value_view w) (members_entries old)) same)
    ∙ sym here ∙ so_far

-- ---- keys

pub found_key : (name : Text) (es : List Entry) → is_some (lookup (is_at (λ (k : Bor Text). slice_cmp nat_cmp name k.now)) es) ≡ has_member name (members_entries es)
found_key name [] = refl
found_key name (e ∷ es) =
    ap (λ b. is_some (cond b (Some e.1) (lookup (is_at (λ (k : Bor Text). slice_cmp nat_cmp name k.now)) es))) (is_eq-slice_cmp name e.0.now)
    ∙ step (bytes_eq name e.0.now) (found_key name es)
  where
    step : (b : Bool) → is_some (lookup (is_at (λ (k : Bor Text). slice_cmp nat_cmp name k.now)) es) ≡ has_member name (members_entries es)
        → is_some (cond b (Some e.1) (lookup (is_at (λ (k : Bor Text). slice_cmp nat_cmp name k.now)) es)) ≡ b || has_member name (members_entries es)
    step true rest = refl
    step false rest = rest

pub some_entries : (es : List Entry) (empty : Bool) → IsTrue empty ↔ (length es ≡ 0) → not empty ≡ are_some (members_entries es)
some_entries [] true is = refl
some_entries [] false is = absurd (cc (is.1 refl))
some_entries (e ∷ es) true is = absurd (omega (arith, is.0 refl))
some_entries (e ∷ es) false is = refl

-- ---- what is in members that were read

put_read : (k : Text) (j : Json) (ms : List (Text × Json)) → IsReadable j → AreRead ms → AreRead (put_member k j ms)
put_read k j [] h g = (h, tt)
put_read k j (m ∷ ms) h g = step (slice_cmp nat_cmp k m.0) (put_read k j ms h g.1)
  where
    step : (o : Ordering) → AreRead (put_member k j ms) → AreRead (match_ordering o ((k, j) ∷ m ∷ ms) ((m.0, j) ∷ ms) (m ∷ put_member k j ms))
    step Less rest = (h, g)
    step Equal rest = (h, g.1)
    step Greater rest = (g.0, rest)

puts_read : (ms : Members) (before : List (Text × Json)) → MembersHaveNumbers ms → members_depth ms ≤ max_depth → AreRead before → AreRead (put_members ms before)
puts_read no_members before numbers le g = g
puts_read (member k j ms) before numbers le g =
    puts_read ms (put_member k j before) numbers.1 (omega (arith, le)) (put_read k j before (numbers.0, omega (arith, le)) g)

in_read : (o : Option Json) → ((i : Json) → o ≡ Some i → IsReadable i) → AreRead (members_in (option_and_then as_object o))
in_read None h = tt
in_read (Some null) h = tt
in_read (Some (boolean b)) h = tt
in_read (Some (number s)) h = tt
in_read (Some (string s)) h = tt
in_read (Some (array js)) h = tt
in_read (Some (object ms)) h =
    let is = h (object ms) refl in
    puts_read ms [] is.0 (omega (arith, is.1)) tt

pub columns_read : (j : Json) → IsReadable j → AreRead (columns_of j)
columns_read j (numbers, nests) =
    in_read (get (codes "columns") j) (λ i e. (HasNumbers-get (codes "columns") j i numbers (sym e), omega (arith, nests, shallower (codes "columns") j i e)))

-- ---- items

item_shallow : (n : ℕ) (js : Items) (i : Json) → get_item n js ≡ Some i → depth i ≤ items_depth js
item_shallow n no_items i e = absurd (cc)
item_shallow zero (item j js) i e = let same : j ≡ i = grind arith in subst (λ v. depth v ≤ items_depth (item j js)) same (omega arith)
item_shallow (suc n) (item j js) i e = omega (arith, item_shallow n js i e)

at_shallow : (n : ℕ) (j i : Json) → at n j ≡ Some i → depth i ≤ depth j
at_shallow n null i e = absurd (cc)
at_shallow n (boolean b) i e = absurd (cc)
at_shallow n (number s) i e = absurd (cc)
at_shallow n (string s) i e = absurd (cc)
at_shallow n (array js) i e = omega (arith, item_shallow n js i e)
at_shallow n (object ms) i e = absurd (cc)

pub item_read : (n : ℕ) (j : Json) (o : Option (Bor (Value Global))) → IsReadable j → option_map (λ v. value_view v.now) o ≡ at n j → IfSome o (λ v. IsReadable (value_view v.now))
item_read n j None h e = tt
item_read n j (Some v) (numbers, nests) e = (HasNumbers-at n j (value_view v.now) numbers e, omega (arith, nests, at_shallow n j (value_view v.now) (sym e)))
