-- Records of columns behind others.
use Rattle.std.proofs.Common.{◌≡◌, ℕ, ◌+◌, ◌≤◌, ◌<◌, Bool, true, false, ◌||◌, List, [], ◌∷◌, ◌++◌}
use Rattle.std.proofs.Common.{length, Result, Ok, Err, refl, sym, ap, ◌∙◌, subst, arith}
use Rattle.std.proofs.Common.{append_assoc}
use Rattle.std.proofs.Common.{inl, inr, append-nil, drop, get_or, map, ℤ}
use Rattle.std.specs.List.{list_any, AllByRecursion}
use Rattle.std.proofs.lemmas.List.{length-append, at_drop_more}
use Rattle.std.proofs.lemmas.List.Folds.{list_any-append}
use Rattle.std.proofs.lemmas.Bool.{lt-ltb}
use Rattle.arrow_values.specs.Tree.{FieldTree, Members}
use Rattle.arrow_values.specs.View.{field_trees, member_trees}
use Rattle.arrow_columns.specs.Types.{ColumnTree}
use Rattle.arrow_columns.specs.Column.{column_of, column_tree}
use Rattle.arrow_columns.specs.declared.column.SchemaColumn.{SchemaColumn}
use Rattle.arrow_columns.specs.Below.{below}
use Rattle.record_wire.specs.Write.{bytes_of}
use Rattle.record_wire.specs.declared.trees.Records.{Records}
use Rattle.record_writer.specs.Placed.{Placed, at, placed, within_type, fields_within}
use Rattle.record_writer.specs.Placed.{members_within, all_placed}
use Rattle.record_writer.specs.Views.{type_in}
use Rattle.record_writer.specs.declared.part.PartType.{PartType}
use Rattle.record_writer.specs.Structures.{structure_of, records_of, room_of, is_too_deep}
use Rattle.record_writer.specs.Writes.{IsRead, Grown, Refuses, Puts}
use Rattle.record_writer.specs.declared.error.Refusal.{Refusal}
use Rattle.record_writer.specs.declared.error.Refusal.TheVariants as refusals
use Rattle.record_writer.proofs.Below.{type_few}

pub records_append : (ps qs : List Placed) → records_of (ps ++ qs) ≡ records_of ps ++ records_of qs
records_append [] qs = refl
records_append (p ∷ ps) qs =
    let r = bytes_of (structure_of p) in
    ap (λ b. r ++ b) (records_append ps qs) ∙ sym (append_assoc r (records_of ps) (records_of qs))

pub room_append : (ps qs : List Placed) → room_of (ps ++ qs) ≡ room_of ps + room_of qs
room_append [] qs = omega arith
room_append (p ∷ ps) qs = let rest = room_append ps qs in omega (arith, rest)

each_append : (ps qs : List Placed) → AllByRecursion IsRead ps → AllByRecursion IsRead qs
    → AllByRecursion IsRead (ps ++ qs)
each_append [] qs a b = b
each_append (p ∷ ps) qs a b = (a.0, each_append ps qs a.1 b)

any_first : (test : Placed → Bool) (ps qs : List Placed) → list_any test ps ≡ true
    → list_any test (ps ++ qs) ≡ true
any_first test ps qs is = rw (list_any-append test ps qs, is) refl

or_true : (b : Bool) → (b || true) ≡ true
or_true true = refl
or_true false = refl

any_later : (test : Placed → Bool) (ps qs : List Placed) → list_any test qs ≡ true
    → list_any test (ps ++ qs) ≡ true
any_later test ps qs is = rw (list_any-append test ps qs, is) (or_true (list_any test ps))

pub grown_none : (r : Records) → Grown r r []
grown_none r = record { count = omega arith; bytes = sym (append-nil r.bytes.items); each = tt }

pub grown_more : (a b c : Records) (ps qs : List Placed) → Grown a b ps → Grown b c qs
    → Grown a c (ps ++ qs)
grown_more a b c ps qs g h =
    let many = length-append ps qs in let x = g.count in let y = h.count in
    record {
      count = omega (arith, many, x, y);
      bytes = h.bytes ∙ ap (λ l. l ++ records_of qs) g.bytes
          ∙ append_assoc a.bytes.items (records_of ps) (records_of qs)
          ∙ ap (λ l. a.bytes.items ++ l) (sym (records_append ps qs));
      each = each_append ps qs g.each h.each;
    }

pub refused_first : (e : Refusal) (n : ℕ) (ps qs : List Placed) → Refuses e n ps
    → Refuses e n (ps ++ qs)
refused_first refusals.Format n ps qs r = any_first _ ps qs r
refused_first refusals.Nul n ps qs r = any_first _ ps qs r
refused_first refusals.TooDeep n ps qs r = any_first _ ps qs r
refused_first refusals.TooLarge n ps qs (inl many) =
    let k = length-append ps qs in inl (omega (arith, k, many))
refused_first refusals.TooLarge n ps qs (inr large) =
    let k = room_append ps qs in inr (omega (arith, k, large))
refused_first refusals.OutOfMemory n ps qs r = tt

pub refused_behind : (e : Refusal) (n m : ℕ) (ps qs : List Placed) → m ≤ n + length ps
    → Refuses e m qs → Refuses e n (ps ++ qs)
refused_behind refusals.Format n m ps qs le r = any_later _ ps qs r
refused_behind refusals.Nul n m ps qs le r = any_later _ ps qs r
refused_behind refusals.TooDeep n m ps qs le r = any_later _ ps qs r
refused_behind refusals.TooLarge n m ps qs le (inl many) =
    let k = length-append ps qs in inl (omega (arith, k, many, le))
refused_behind refusals.TooLarge n m ps qs le (inr large) =
    let k = room_append ps qs in inr (omega (arith, k, large))
refused_behind refusals.OutOfMemory n m ps qs le r = tt

pub refused_later : (e : Refusal) (a b : Records) (ps qs : List Placed) → Grown a b ps
    → Refuses e b.count qs → Refuses e a.count (ps ++ qs)
refused_later e a b ps qs g r =
    let x = g.count in refused_behind e a.count b.count ps qs (omega (arith, x)) r

-- a column that lies too deep
pub deep_refused : (n level : ℕ) (ps : List Placed) (c : ColumnTree) → 61 < level
    → Refuses refusals.TooDeep n (ps ++ at level c ∷ [])
deep_refused n level ps c deep =
    any_later is_too_deep ps (at level c ∷ []) (rw (lt-ltb 61 level deep) refl)

-- as many are written as lie right in a type, so that these are few
pub few_below : (a b : Records) (l : ℕ) (t : PartType) → Grown a b (within_type l (type_in t))
    → b.count ≤ 4000000 → length (below (type_in t)) ≤ 4000000
few_below a b l t g few =
    let x = g.count in let k = type_few l t in omega (arith, x, k, few)

-- others behind those that are there
pub puts_then : (a b : Records) (ps qs : List Placed) (r : Result Records Refusal) → Grown a b ps
    → Puts b qs r → Puts a (ps ++ qs) r
puts_then a b ps qs (Ok c) g h = grown_more a b c ps qs g h
puts_then a b ps qs (Err e) g h = refused_later e a b ps qs g h

pub ruleset column_steps = (grown_none, refused_first, deep_refused)

-- of columns one after the other those so far, before those that are left
pub record Done (before now : Records) (left all : List Placed) : Type 0 where
  pub done : List Placed
  pub parts : done ++ left ≡ all
  pub grown : Grown before now done

pub done_begins : (r : Records) (all : List Placed) → Done r r all all
done_begins r all = record { done = []; parts = refl; grown = grown_none r }

pub done_more : (before now next : Records) (ps left all : List Placed)
    → Done before now (ps ++ left) all → Grown now next ps → Done before next left all
done_more before now next ps left all d g = record {
  done = d.done ++ ps;
  parts = append_assoc d.done ps left ∙ d.parts;
  grown = grown_more before now next d.done ps d.grown g;
}

pub done_refused : (e : Refusal) (before now : Records) (ps left all : List Placed)
    → Done before now (ps ++ left) all → Refuses e now.count ps → Refuses e before.count all
done_refused e before now ps left all d r =
    let one = refused_first e now.count ps left r in
    let more = refused_later e before now d.done (ps ++ left) d.grown one in
    subst (λ (l : List Placed). Refuses e before.count l) d.parts more

pub done_all : (before now : Records) (all : List Placed) → Done before now [] all
    → Grown before now all
done_all before now all d =
    subst (λ (l : List Placed). Grown before now l) (sym (append-nil d.done) ∙ d.parts) d.grown

pub ruleset field_steps = (done_begins, done_all)

-- ---- one field after the other

module _ (a now : Records) (l i : ℕ) where
  module _ (fs : List FieldTree) (f : FieldTree) (more : i < length fs) (is : f ≡ get_or fs i f)
      (so_far : Done a now (fields_within l (field_trees (drop i fs)))
      (fields_within l (field_trees fs))) where
    field_turn : Done a now
        (placed l (column_of f) ++ fields_within l (field_trees (drop (i + 1) fs)))
        (fields_within l (field_trees fs))
    field_turn =
        let F = λ (gs : List FieldTree). fields_within l (field_trees gs) in
        let e = at_drop_more F fs i f more
        ∙ ap (λ (g : FieldTree). F (g ∷ drop (i + 1) fs)) (sym is) in
        subst (λ (left : List Placed). Done a now left (fields_within l (field_trees fs))) e so_far

    pub field_more : (next : Records) → Grown now next (placed l (column_of f))
        → Done a next (fields_within l (field_trees (drop (i + 1) fs)))
        (fields_within l (field_trees fs))
    field_more next g = done_more a now next _ _ _ field_turn g

    pub field_refused : (e : Refusal) → Refuses e now.count (placed l (column_of f))
        → Refuses e a.count (fields_within l (field_trees fs))
    field_refused e r = done_refused e a now _ _ _ field_turn r

  module _ (ms : Members) (m : ℤ × FieldTree) (more : i < length ms) (is : m ≡ get_or ms i m)
      (so_far : Done a now (members_within l (member_trees (drop i ms)))
      (members_within l (member_trees ms))) where
    member_turn : Done a now
        (placed l (column_of m.1) ++ members_within l (member_trees (drop (i + 1) ms)))
        (members_within l (member_trees ms))
    member_turn =
        let F = λ (ns : Members). members_within l (member_trees ns) in
        let e = at_drop_more F ms i m more
        ∙ ap (λ (n : ℤ × FieldTree). F (n ∷ drop (i + 1) ms)) (sym is) in
        subst (λ (left : List Placed). Done a now left (members_within l (member_trees ms))) e
        so_far

    pub member_more : (next : Records) → Grown now next (placed l (column_of m.1))
        → Done a next (members_within l (member_trees (drop (i + 1) ms)))
        (members_within l (member_trees ms))
    member_more next g = done_more a now next _ _ _ member_turn g

    pub member_refused : (e : Refusal) → Refuses e now.count (placed l (column_of m.1))
        → Refuses e a.count (members_within l (member_trees ms))
    member_refused e r = done_refused e a now _ _ _ member_turn r

  module _ (xs : List SchemaColumn) (x : SchemaColumn) (more : i < length xs)
      (is : x ≡ get_or xs i x)
      (so_far : Done a now (all_placed l (map column_tree (drop i xs)))
      (all_placed l (map column_tree xs))) where
    pub column_turn : Done a now
        (placed l (column_tree x) ++ all_placed l (map column_tree (drop (i + 1) xs)))
        (all_placed l (map column_tree xs))
    column_turn =
        let F = λ (ys : List SchemaColumn). all_placed l (map column_tree ys) in
        let e = at_drop_more F xs i x more
        ∙ ap (λ (y : SchemaColumn). F (y ∷ drop (i + 1) xs)) (sym is) in
        subst (λ (left : List Placed). Done a now left (all_placed l (map column_tree xs))) e so_far

    pub column_more : (next : Records) → Grown now next (placed l (column_tree x))
        → Done a next (all_placed l (map column_tree (drop (i + 1) xs)))
        (all_placed l (map column_tree xs))
    column_more next g = done_more a now next _ _ _ column_turn g
