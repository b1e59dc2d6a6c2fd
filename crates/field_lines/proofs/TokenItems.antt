-- The items of a list from tokens: what is left decides.
use Rattle.std.proofs.Common.{◌≡◌, ℕ, ◌<◌, ℤ, List, [], ◌∷◌, ◌++◌, ◌+◌, length, length-append, append_assoc, append-nil, IsTrue, Option, Some, None, option_map, option_and_then, refl, sym, ap, subst, ◌∙◌, arith}
use Rattle.field_lines.proofs.Terms.{and_from, zip, Token, parse_map, after_end_array, Data, array, Items, no_items, item, FieldTree, MemberTrees, is_type_id, member_before, field_of_value, id_of_value, members_in, AreMemberParts, pair_read, tree_ids, member_trees, next_value, next_items, after, ReadsValue, ReadsItems, item_read, item_refused, items_over, value_takes, after_some}
use Rattle.std.proofs.lemmas.List.Folds.{list_all-append}

-- what is next leaves of a list: its end, or an item
abbrev pub turn : ℕ → Option (List Token) → Option (Data × List Token) → Option (Items × List Token)
turn depth (Some r) o = Some (no_items, r)
turn depth None o = option_and_then (λ p. parse_map (item p.0) (next_items depth p.1)) o

turned : (depth : ℕ) (ts : List Token) (over : Option (List Token)) (o : Option (Data × List Token)) → after_end_array ts ≡ over → next_value depth ts ≡ o → next_items depth ts ≡ turn depth over o
turned depth ts (Some r) o over e = items_over depth ts r over
turned depth ts None None over e = item_refused depth ts over e
turned depth ts None (Some p) over e = item_read depth ts p.1 p.0 over e

pub item_turn : (depth : ℕ) (ts : List Token) → next_items depth ts ≡ turn depth (after_end_array ts) (next_value depth ts)
item_turn depth ts = turned depth ts (after_end_array ts) (next_value depth ts) refl refl

pub array_read : {A : Type 0} (f : Data → A) (depth below : ℕ) (ts s r : List Token) (a : A) → next_value depth ts ≡ parse_map array (next_items below s)
    → ReadsItems (λ ds. f (array ds)) below s a r → ReadsValue f depth ts a r
array_read f depth below ts s r a opened read = (array read.0, opened ∙ ap (parse_map array) read.1, read.2)

-- an item where no bracket closes the list
abbrev pub GoesOn : List Token → List Token → Type 0
GoesOn ts s = (after_end_array ts ≡ None) × (s ≡ ts)

pub item_taken : {A : Type 0} {f : Data → A} (depth : ℕ) (ts : List Token) {s r : List Token} {o : A} → ReadsValue f depth s o r → GoesOn ts s
    → (d : Data) × (next_items depth ts ≡ parse_map (item d) (next_items depth r)) × (o ≡ f d) × (next_value depth ts ≡ Some (d, r))
item_taken depth ts {s} {r} read going = let value = ap (next_value depth) (sym going.1) ∙ read.1 in
    (read.0, item_read depth ts r read.0 going.0 value, read.2, value)

-- an item that cannot be read
pub item_none : (depth : ℕ) (ts : List Token) {s : List Token} → next_value depth s ≡ None → GoesOn ts s → next_items depth ts ≡ None
item_none depth ts none going = item_refused depth ts going.0 (ap (next_value depth) (sym going.1) ∙ none)

-- an item takes tokens
pub item_takes : {A : Type 0} {f : Data → A} {o : A} (depth : ℕ) (ts r : List Token) {s : List Token} → ReadsValue f depth s o r → GoesOn ts s → length r < length ts
item_takes depth ts r read going = let one = item_taken depth ts read going in value_takes depth ts r one.0 one.3

-- ---- the items so far made these, which stand before what those that are left make

pub record AreItemsTaken {X T : Type 0} (trees : List X → T) (whole : Items → Option T) (depth : _) (all left : List Token) (made : List X) : Type 0 where
  pub some : (xs : List X) (r : List Token) → ReadsItems whole depth left (Some (trees xs)) r → ReadsItems whole depth all (Some (trees (made ++ xs))) r
  pub none : (r : List Token) → ReadsItems whole depth left None r → ReadsItems whole depth all None r
  pub refused : next_items depth left ≡ None → next_items depth all ≡ None

pub taken_start : {X T : Type 0} {trees : List X → T} {whole : Items → Option T} {depth : ℕ} {all : List Token} {made : List X} → made ≡ [] → AreItemsTaken trees whole depth all all made
taken_start is = rw is (record { some = λ xs r e. e; none = λ r e. e; refused = λ e. e })

module _ {X T : Type 0} {trees : List X → T} {whole : Items → Option T} {depth : ℕ} {all left : List Token} {made : List X} (way : AreItemsTaken trees whole depth all left made) where
  pub taken_end : {r : List Token} → whole no_items ≡ Some (trees []) → after_end_array left ≡ Some r → ReadsItems whole depth all (Some (trees made)) r
  taken_end {r} none over = subst (λ xs. ReadsItems whole depth all (Some (trees xs)) r) (append-nil made) (way.some [] r (no_items, items_over depth left r over, sym none))

  pub taken_cut : {A : Type 0} {f : Data → A} {o : A} {s u : List Token} → ReadsValue f depth s o u → next_items depth u ≡ None → GoesOn left s → next_items depth all ≡ None
  taken_cut read none going = let one = item_taken depth left read going in way.refused (one.1 ∙ ap (parse_map (item one.0)) none)

  -- with how an item is read before the others
  module _ (step : X → T → T) (item_of : Data → Option X) (more : (x : X) (xs : List X) → step x (trees xs) ≡ trees (x ∷ xs))
      (law : (d : Data) (ds : Items) → whole (item d ds) ≡ option_and_then (λ x. option_map (step x) (whole ds)) (item_of d)) where
    pub taken_go_on : {s r : List Token} {x : X} {new : List X} → ReadsValue item_of depth s (Some x) r → new ≡ made ++ (x ∷ []) → GoesOn left s → AreItemsTaken trees whole depth all r new
    taken_go_on {s} {r} {x} {new} read is going = let one = item_taken depth left read going in
        record {
          some = λ xs u rest. rw (is, append_assoc made (x ∷ []) xs) (way.some (x ∷ xs) u (item one.0 rest.0, one.1 ∙ ap (parse_map (item one.0)) rest.1, rw (law one.0 rest.0, ← one.2, ← rest.2) (ap Some (sym (more x xs)))));
          none = λ u rest. way.none u (item one.0 rest.0, one.1 ∙ ap (parse_map (item one.0)) rest.1, rw (law one.0 rest.0, ← one.2, ← rest.2));
          refused = λ e. way.refused (one.1 ∙ ap (parse_map (item one.0)) e);
        }

    pub taken_spoiled : {s u r : List Token} → ReadsValue item_of depth s None u → after (next_items depth u) ≡ Some r → GoesOn left s → ReadsItems whole depth all None r
    taken_spoiled {s} {u} {r} read rest going = let one = item_taken depth left read going in
        let ds = after_some (next_items depth u) r rest in
        way.none r (item one.0 ds.0, one.1 ∙ ap (parse_map (item one.0)) ds.1, rw (law one.0 ds.0, ← one.2))

-- ---- the pairs of a union

pub tree_ids_zip : (is : List ℤ) (fs : List FieldTree) → length is ≡ length fs → tree_ids (member_trees (zip is fs)) ≡ is
tree_ids_zip [] fs h = refl
tree_ids_zip (i ∷ is) [] h = absurd (omega arith)
tree_ids_zip (i ∷ is) (f ∷ fs) h = ap (λ js. i ∷ js) (tree_ids_zip is fs (omega arith))

abbrev pub pair_before : ℤ × FieldTree → MemberTrees → MemberTrees
pair_before q rest = member_before q.0 q.1 rest

paired : (ids : Option ℤ) (fields : Option FieldTree) (rest : Option MemberTrees)
    → option_and_then (λ id. option_and_then (λ f. option_map (member_before id f) rest) fields) ids ≡ option_and_then {U = _} (λ q. option_map (pair_before q) rest) (option_and_then {U = ℤ × FieldTree} (λ id. option_map (λ f. (id, f)) fields) ids)
paired ids fields rest = grind arith

pub members_in-pair : (p : Data) (ds : Items) → members_in (item p ds) ≡ option_and_then (λ q. option_map (pair_before q) (members_in ds)) (pair_read p)
members_in-pair (array (item i (item d no_items))) ds = paired (id_of_value i) (field_of_value d) (members_in ds)
members_in-pair _ ds = refl

pub zip_push : (ids : List ℤ) (fs : List FieldTree) (i : ℤ) (f : FieldTree) → length ids ≡ length fs → zip (ids ++ (i ∷ [])) (fs ++ (f ∷ [])) ≡ zip ids fs ++ ((i, f) ∷ [])
zip_push [] [] i f h = refl
zip_push (j ∷ js) (g ∷ gs) i f h = ap (λ l. (j, g) ∷ l) (zip_push js gs i f (omega arith))
zip_push _ _ i f h = absurd (omega arith)

pub parts_push : (ids : List ℤ) (fs : List FieldTree) (i : ℤ) (f : FieldTree) → AreMemberParts ids fs → IsTrue (is_type_id i) → AreMemberParts (ids ++ (i ∷ [])) (fs ++ (f ∷ []))
parts_push ids fs i f parts good = (simp length-append (ap (λ n. n + 1) parts.0), list_all-append is_type_id ids (i ∷ []) ∙ and_from _ _ parts.1 (and_from _ _ good refl))

pub ruleset taking_items = (item_turn, taken_start)
