-- What lies right in a type.
use Rattle.std.proofs.Common.{◌≡◌, ℕ, ◌+◌, ◌≤◌, List, [], ◌∷◌, ◌++◌, length, map, ap}
use Rattle.std.proofs.Common.{arith, ◌==◌, refl, sym}
use Rattle.std.proofs.lemmas.Bool.{ne_eqb}
use Rattle.std.proofs.lemmas.List.{length-append, length-map}
use Rattle.arrow_values.specs.Tree.{Tree, plain, list, large_list, fixed_size_list, struct, union}
use Rattle.arrow_values.specs.Tree.{FieldTrees, no_fields, field, MemberTrees, no_members, member}
use Rattle.arrow_values.specs.Tree.{FieldTree, Members, field_tree}
use Rattle.arrow_values.specs.View.{tree, field_trees, member_trees, listed_fields, listed_members}
use Rattle.arrow_values.specs.View.{field_list, member_list}
use Rattle.arrow_columns.specs.Types.{known, ColumnTree, part_trees}
use Rattle.arrow_columns.specs.declared.other.Form.TheVariants as forms
use Rattle.arrow_columns.specs.Column.{column_of}
use Rattle.arrow_columns.specs.Below.{below}
use Rattle.record_writer.specs.Placed.{Placed, at, within, fields_within, members_within}
use Rattle.record_writer.specs.Placed.{within_type}
use Rattle.record_writer.specs.Formats.{is_leaf}
use Rattle.record_writer.specs.Views.{type_in}
use Rattle.record_writer.specs.declared.part.PartType.{PartType}
use Rattle.record_writer.specs.declared.part.PartType.TheVariants.{Data, Leaf}

pub fields_counted : (fs : List FieldTree)
    → length (below (known (struct (field_trees fs)))) ≡ length fs
fields_counted fs = simp length-map (ap length (listed_fields fs))

pub members_counted : (ms : Members)
    → length (map (λ m. column_of m.1) (member_list (member_trees ms))) ≡ length ms
members_counted ms = simp length-map (ap length (listed_members ms))

pub ruleset counted = (fields_counted, members_counted)

-- no fewer are written than lie right in it
one_more : (ps qs : List Placed) (p : Placed) (n : ℕ) → n ≤ length qs
    → n + 1 ≤ length ((ps ++ p ∷ []) ++ qs)
one_more ps qs p n le =
    let a = length-append (ps ++ p ∷ []) qs in
    let b = length-append ps (p ∷ []) in
    omega (arith, a, b, le)

one_within : (ps : List Placed) (p : Placed) → 1 ≤ length (ps ++ p ∷ [])
one_within ps p = let b = length-append ps (p ∷ []) in omega (arith, b)

fields_few : (l : ℕ) (fs : FieldTrees)
    → length (map column_of (field_list fs)) ≤ length (fields_within l fs)
fields_few l no_fields = omega arith
fields_few l (field n t b m fs) =
    let p = at l (column_of (field_tree n t b m)) in
    let h = one_more (within (l + 1) t) (fields_within l fs) p _ (fields_few l fs) in
    omega (arith, h)

members_few : (l : ℕ) (ms : MemberTrees)
    → length (map (λ m. column_of m.1) (member_list ms)) ≤ length (members_within l ms)
members_few l no_members = omega arith
members_few l (member i n t b m ms) =
    let p = at l (column_of (field_tree n t b m)) in
    let h = one_more (within (l + 1) t) (members_within l ms) p _ (members_few l ms) in
    omega (arith, h)

below_few : (l : ℕ) (t : Tree) → length (below (known t)) ≤ length (within l t)
below_few l (plain p) = omega arith
below_few l (list n t b m) =
    one_within (within (l + 1) t) (at l (column_of (field_tree n t b m)))
below_few l (large_list n t b m) =
    one_within (within (l + 1) t) (at l (column_of (field_tree n t b m)))
below_few l (fixed_size_list n t b m s) =
    one_within (within (l + 1) t) (at l (column_of (field_tree n t b m)))
below_few l (struct fs) = fields_few l fs
below_few l (union ms mode) = members_few l ms

-- a type of which nothing is known but its notation has no parts
pub are_no_parts : (cs : List ColumnTree) → is_leaf forms.Leaf [] (part_trees cs) ≡ (length cs == 0)
are_no_parts [] = refl
are_no_parts (c ∷ cs) = sym (ne_eqb (length (c ∷ cs)) 0 (omega arith))

pub type_few : (l : ℕ) (t : PartType)
    → length (below (type_in t)) ≤ length (within_type l (type_in t))
type_few l (Data d) = below_few l (tree d.now)
type_few l (Leaf notation) = omega arith
