-- What is read of the records of columns.
use Rattle.std.proofs.Common.{◌≡◌, ℕ, ℤ, ◌+◌, Bool, true, false, List, [], ◌∷◌, ◌++◌, length}
use Rattle.std.proofs.Common.{map}
use Rattle.std.proofs.Common.{Option, Some, None, Ok, refl, sym, ap, ◌∙◌, subst, arith, inl, inr}
use Rattle.std.proofs.Common.{append-nil}
use Rattle.std.specs.List.{AllByRecursion, zip}
use Rattle.std.proofs.lemmas.List.{length-append, length-map}
use Rattle.std.proofs.lemmas.Bool.{cases_Bool, eq-eqb, true≢false}
use Rattle.std.proofs.lemmas.Option.{none-some}
use Rattle.arrow_values.specs.Tree.{Tree, plain, list, large_list, fixed_size_list}
use Rattle.arrow_values.specs.Tree.{struct}
use Rattle.arrow_values.specs.Tree.{union, FieldTrees, no_fields, field, MemberTrees, no_members}
use Rattle.arrow_values.specs.Tree.{member, FieldTree, field_tree, Members, Text, Plain, null}
use Rattle.arrow_values.specs.Tree.{boolean, int8, int16, int32, int64, uint8, uint16, uint32}
use Rattle.arrow_values.specs.Tree.{uint64, float16, float32, float64, date32, date64, binary}
use Rattle.arrow_values.specs.Tree.{large_binary, binary_view, utf8, large_utf8, utf8_view}
use Rattle.arrow_values.specs.View.{tree, field_list, member_list, member_trees}
use Rattle.arrow_values.specs.View.{field_trees_of_list}
use Rattle.arrow_values.specs.declared.tree.UnionMode.{UnionMode}
use Rattle.arrow_values.specs.Union.{ids_of}
use Rattle.arrow_columns.specs.Types.{TypeTree, known, other, leaf, PartTrees, no_parts, part}
use Rattle.arrow_columns.specs.Types.{ColumnTree}
use Rattle.arrow_columns.specs.declared.other.Form.{Form}
use Rattle.arrow_columns.specs.declared.other.Form.TheVariants as forms
use Rattle.arrow_columns.specs.declared.other.Form.TheVariants.{Leaf}
use Rattle.arrow_columns.specs.Column.{column_of as field_column}
use Rattle.arrow_columns.specs.Below.{below, below_tree}
use Rattle.arrow_columns.specs.Nested.{all_known, known_fields}
use Rattle.arrow_kinds.specs.Types.{type_of}
use Rattle.format_strings.specs.Formats.{Said, format_of}
use Rattle.format_strings.specs.Reading.{said_in}
use Rattle.format_strings.specs.Notations.{notation_in}
use Rattle.format_strings.proofs.Forth.{written_is_read}
use Rattle.format_strings.proofs.Back.{bound}
use Rattle.format_strings.proofs.Noted.{read_is_notation}
use Rattle.record_wire.specs.Record.{has_nul}
use Rattle.record_wire.specs.Trees.{Adds}
use Rattle.record_wire.specs.Write.{bytes_of}
use Rattle.record_wire.proofs.TreeLemmas.{begins, closes, follows}
use Rattle.record_columns.specs.Columns.{own_type, column_of, is_nullable}
use Rattle.record_columns.specs.Texts.{texts_in}
use Rattle.record_writer.specs.Placed.{Placed, at, within, fields_within, members_within, placed}
use Rattle.record_writer.specs.Placed.{all_placed, within_type}
use Rattle.record_writer.specs.Formats.{plain_type, said_of, is_leaf, said_with, without_nul}
use Rattle.record_writer.specs.Formats.{noted_format, format_in}
use Rattle.record_writer.specs.Structures.{flags_of, structure_of, records_of}
use Rattle.record_writer.specs.Writes.{IsRead}
use Rattle.record_writer.proofs.Grows.{records_append}

-- ---- the type that a format string says of the columns that lie in it

all_are_known : (fs : List FieldTree) → all_known (map field_column fs) ≡ true
all_are_known [] = refl
all_are_known (f ∷ fs) = all_are_known fs

are_fields : (fs : List FieldTree) → known_fields (map field_column fs) ≡ fs
are_fields [] = refl
are_fields (f ∷ fs) = ap (λ l. f ∷ l) (are_fields fs)

-- the fields of members
abbrev fields_of : Members → List FieldTree
fields_of ms = map (λ m. m.1) ms

member_columns : (ms : Members) → map (λ m. field_column m.1) ms ≡ map field_column (fields_of ms)
member_columns [] = refl
member_columns (m ∷ ms) = ap (λ l. field_column m.1 ∷ l) (member_columns ms)

members_back : (ms : MemberTrees)
    → member_trees (zip (ids_of (member_list ms)) (fields_of (member_list ms))) ≡ ms
members_back no_members = refl
members_back (member i n t b m ms) = ap (member i n t b m) (members_back ms)

as_many : (ms : Members)
    → length (map (λ m. field_column m.1) ms) ≡ length (ids_of ms)
as_many ms = simp length-map

union_is : (ms : MemberTrees) (mode : UnionMode)
    → own_type (said_of (union ms mode)) (below_tree (union ms mode)) ≡ Ok (known (union ms mode))
unfolding own_type type_of
union_is ms mode =
    let l = member_list ms in
    rw (
      as_many l,
      eq-eqb (length (ids_of l)) (length (ids_of l)) refl,
      member_columns l,
      all_are_known (fields_of l),
      are_fields (fields_of l),
      members_back ms,
    ) refl

struct_is : (fs : FieldTrees)
    → own_type (said_of (struct fs)) (below_tree (struct fs)) ≡ Ok (known (struct fs))
unfolding own_type type_of
struct_is fs = let l = field_list fs in
    rw (all_are_known l, are_fields l, field_trees_of_list fs) refl

plain_is : (p : Plain) → tree (plain_type p) ≡ plain p
plain_is null = refl
plain_is boolean = refl
plain_is int8 = refl
plain_is int16 = refl
plain_is int32 = refl
plain_is int64 = refl
plain_is uint8 = refl
plain_is uint16 = refl
plain_is uint32 = refl
plain_is uint64 = refl
plain_is float16 = refl
plain_is float32 = refl
plain_is float64 = refl
plain_is date32 = refl
plain_is date64 = refl
plain_is binary = refl
plain_is large_binary = refl
plain_is binary_view = refl
plain_is utf8 = refl
plain_is large_utf8 = refl
plain_is utf8_view = refl

type_is : (t : Tree) → own_type (said_of t) (below_tree t) ≡ Ok (known t)
unfolding own_type type_of
type_is (plain p) = rw (plain_is p) refl
type_is (list n t b m) = refl
type_is (large_list n t b m) = refl
type_is (fixed_size_list n t b m s) = refl
type_is (struct fs) = struct_is fs
type_is (union ms mode) = union_is ms mode

-- ---- the type whose notation a text is

pub leaf_is : (f : Form) (ids : List ℤ) (ps : PartTrees) (s : Text) → is_leaf f ids ps ≡ true
    → other s f ids ps ≡ leaf s
leaf_is Leaf [] no_parts s is = refl
leaf_is Leaf [] (part n t b m ps) s is = absurd (true≢false (sym is))
leaf_is Leaf (i ∷ ids) ps s is = absurd (true≢false (sym is))
leaf_is (forms.List form) ids ps s is = absurd (true≢false (sym is))
leaf_is forms.ListView ids ps s is = absurd (true≢false (sym is))
leaf_is forms.LargeListView ids ps s is = absurd (true≢false (sym is))
leaf_is forms.Struct ids ps s is = absurd (true≢false (sym is))
leaf_is (forms.Union mode) ids ps s is = absurd (true≢false (sym is))
leaf_is forms.Map ids ps s is = absurd (true≢false (sym is))
leaf_is forms.RunEndEncoded ids ps s is = absurd (true≢false (sym is))
leaf_is forms.Dictionary ids ps s is = absurd (true≢false (sym is))

kept : (o : Option Text) (format : Text) → without_nul o ≡ Some format → o ≡ Some format
kept None format e = absurd (none-some format e)
kept (Some text) format e = elim (cases_Bool (has_nul text)) [
  | inl one ↦ absurd (none-some format (rw one at e))
  | inr none ↦ rw none at e
]

noted_is : (s format : Text) → noted_format s ≡ Some format → (said : Said)
    × (said_in format ≡ Some said) × (own_type said [] ≡ Ok (leaf s))
unfolding own_type type_of
noted_is s format e =
    let b = bound (λ p. format_of (said_with p)) (notation_in s) format (kept _ format e) in
    let is = (read_is_notation s b.0.0 b.0.1 b.1).is in (
      said_with b.0,
      written_is_read (said_with b.0) format b.2,
      ap (λ (t : Text). Ok (leaf t)) is,
    )

-- ---- a column of its structure

flag_is : (b : Bool) → is_nullable (flags_of b) ≡ b
flag_is true = refl
flag_is false = refl

abbrev form : ℕ → ColumnTree → Text
form level c = (structure_of (at level c)).format

abbrev HasForm : ℕ → ColumnTree → TypeTree → Type 0
HasForm level c t = format_in t ≡ Some (form level c)

abbrev HasTexts : ℕ → ColumnTree → Type 0
HasTexts level c = texts_in (structure_of (at level c)).metadata ≡ Ok c.metadata

abbrev IsOf : ℕ → ColumnTree → Type 0
IsOf level c = column_of (structure_of (at level c)) (below c.data_type) ≡ Ok c

known_is : (level : ℕ) (c : ColumnTree) (t : Tree) → c.data_type ≡ known t
    → HasForm level c c.data_type → HasTexts level c → IsOf level c
unfolding column_of
known_is level c t is format texts =
    let said = written_is_read (said_of t) (form level c)
    (subst (λ (u : TypeTree). HasForm level c u) is format) in
    let own : own_type (said_of t) (below c.data_type) ≡ Ok c.data_type = rw is (type_is t) in
    rw (said, own, texts, flag_is c.nullable) refl

leaf_column : (level : ℕ) (c : ColumnTree) (s : Text) → c.data_type ≡ leaf s
    → HasForm level c c.data_type → HasTexts level c → IsOf level c
unfolding column_of
leaf_column level c s is format texts =
    let n = noted_is s (form level c) (subst (λ (u : TypeTree). HasForm level c u) is format) in
    let own = subst (λ (u : TypeTree). own_type n.0 (below u) ≡ Ok u) (sym is) n.2 in
    rw (n.1, own, texts, flag_is c.nullable) refl

other_column : (level : ℕ) (c : ColumnTree) (s : Text) (f : Form) (ids : List ℤ) (ps : PartTrees)
    (b : Bool) → is_leaf f ids ps ≡ b → c.data_type ≡ other s f ids ps
    → HasForm level c c.data_type → HasTexts level c → IsOf level c
other_column level c s f ids ps true e is format texts =
    leaf_column level c s (is ∙ leaf_is f ids ps s e) format texts
other_column level c s f ids ps false e is format texts =
    let there : HasForm level c (other s f ids ps) =
    subst (λ (u : TypeTree). HasForm level c u) is format in
    absurd (none-some (form level c) (rw e at there))

column_by : (level : ℕ) (c : ColumnTree) (u : TypeTree) → c.data_type ≡ u
    → HasForm level c c.data_type → HasTexts level c → IsOf level c
column_by level c (known t) is format texts = known_is level c t is format texts
column_by level c (other s f ids ps) is format texts =
    other_column level c s f ids ps (is_leaf f ids ps) refl is format texts

pub column_is : (level : ℕ) (c : ColumnTree) → HasForm level c c.data_type → HasTexts level c
    → IsOf level c
column_is level c format texts = column_by level c c.data_type refl format texts

-- ---- records of columns, each behind those of what lies in it

each_first : (ps qs : List Placed) → AllByRecursion IsRead (ps ++ qs) → AllByRecursion IsRead ps
each_first [] qs all = tt
each_first (p ∷ ps) qs all = (all.0, each_first ps qs all.1)

each_later : (ps qs : List Placed) → AllByRecursion IsRead (ps ++ qs) → AllByRecursion IsRead qs
each_later [] qs all = all
each_later (p ∷ ps) qs all = each_later ps qs all.1

abbrev AddsAll : List Placed → List ColumnTree → ℕ → Type 0
AddsAll ps cs level = Adds column_of (length ps) (records_of ps) cs level

-- a column behind what lies in it
one_adds : (level : ℕ) (c : ColumnTree) (ps : List Placed)
    → (AllByRecursion IsRead ps → AddsAll ps (below c.data_type) (level + 1))
    → AllByRecursion IsRead (ps ++ at level c ∷ []) → AddsAll (ps ++ at level c ∷ []) (c ∷ []) level
one_adds level c ps inner all =
    let p = at level c in
    let last = each_later ps (p ∷ []) all in
    let r = last.0 in
    let many : length (below c.data_type) ≡ length (below c.data_type) + 0 = omega arith in
    let first = inner (each_first ps (p ∷ []) all) in
    let s = structure_of p in let one = bytes_of s in
    let is = column_is level c r.format r.texts in
    let closed = closes column_of s one (below c.data_type) c r.reads many r.low is (length ps)
    (records_of ps) first in
    let count : length (ps ++ p ∷ []) ≡ length ps + 1 = length-append ps (p ∷ []) in
    let bytes : records_of (ps ++ p ∷ []) ≡ records_of ps ++ one =
    records_append ps (p ∷ []) ∙ ap (λ (b : List ℕ). records_of ps ++ b) (append-nil one) in
    subst (λ (k : ℕ). Adds column_of k (records_of (ps ++ p ∷ [])) (c ∷ []) level) (sym count)
    (subst (λ (b : List ℕ). Adds column_of (length ps + 1) b (c ∷ []) level) (sym bytes) closed)

both_add : (level : ℕ) (ps qs : List Placed) (cs ds : List ColumnTree) → AddsAll ps cs level
    → AddsAll qs ds level → AddsAll (ps ++ qs) (cs ++ ds) level
both_add level ps qs cs ds a b =
    let n = length ps in let m = length qs in
    let both = follows column_of n m (records_of ps) (records_of qs) cs ds level a b in
    let count : length (ps ++ qs) ≡ n + m = length-append ps qs in
    let bytes = records_append ps qs in
    subst (λ (k : ℕ). Adds column_of k (records_of (ps ++ qs)) (cs ++ ds) level) (sym count)
    (subst (λ (b : List ℕ). Adds column_of (n + m) b (cs ++ ds) level) (sym bytes) both)

mutual
  within_adds : (level : ℕ) (t : Tree) → AllByRecursion IsRead (within level t)
      → AddsAll (within level t) (below_tree t) level
  within_adds l (plain p) all = begins column_of l
  within_adds l (list n t b m) all =
      one_adds l (field_column (field_tree n t b m)) (within (l + 1) t)
      (λ h. within_adds (l + 1) t h) all
  within_adds l (large_list n t b m) all =
      one_adds l (field_column (field_tree n t b m)) (within (l + 1) t)
      (λ h. within_adds (l + 1) t h) all
  within_adds l (fixed_size_list n t b m s) all =
      one_adds l (field_column (field_tree n t b m)) (within (l + 1) t)
      (λ h. within_adds (l + 1) t h) all
  within_adds l (struct fs) all = fields_add l fs all
  within_adds l (union ms mode) all = members_add l ms all

  fields_add : (l : ℕ) (fs : FieldTrees) → AllByRecursion IsRead (fields_within l fs)
      → AddsAll (fields_within l fs) (map field_column (field_list fs)) l
  fields_add l no_fields all = begins column_of l
  fields_add l (field n t b m fs) all =
      let c = field_column (field_tree n t b m) in
      let ps = within (l + 1) t ++ at l c ∷ [] in
      let qs = fields_within l fs in
      let one : AddsAll ps (c ∷ []) l =
      one_adds l c (within (l + 1) t) (λ h. within_adds (l + 1) t h) (each_first ps qs all) in
      both_add l ps qs (c ∷ []) (map field_column (field_list fs)) one
      (fields_add l fs (each_later ps qs all))

  members_add : (l : ℕ) (ms : MemberTrees) → AllByRecursion IsRead (members_within l ms)
      → AddsAll (members_within l ms) (map (λ m. field_column m.1) (member_list ms)) l
  members_add l no_members all = begins column_of l
  members_add l (member i n t b m ms) all =
      let c = field_column (field_tree n t b m) in
      let ps = within (l + 1) t ++ at l c ∷ [] in
      let qs = members_within l ms in
      let one : AddsAll ps (c ∷ []) l =
      one_adds l c (within (l + 1) t) (λ h. within_adds (l + 1) t h) (each_first ps qs all) in
      both_add l ps qs (c ∷ []) (map (λ m. field_column m.1) (member_list ms)) one
      (members_add l ms (each_later ps qs all))

other_adds : (l : ℕ) (s : Text) (f : Form) (ids : List ℤ) (ps : PartTrees) (b : Bool)
    (text : List ℕ) → is_leaf f ids ps ≡ b → format_in (other s f ids ps) ≡ Some text
    → AddsAll [] (below (other s f ids ps)) l
other_adds l s f ids ps true text e is =
    subst (λ (t : TypeTree). AddsAll [] (below t) l) (sym (leaf_is f ids ps s e))
    (begins column_of l)
other_adds l s f ids ps false text e is = absurd (none-some text (rw e at is))

pub type_adds : (l : ℕ) (t : TypeTree) (text : List ℕ) → format_in t ≡ Some text
    → AllByRecursion IsRead (within_type l t) → AddsAll (within_type l t) (below t) l
type_adds l (known t) text is all = within_adds l t all
type_adds l (other s f ids ps) text is all =
    other_adds l s f ids ps (is_leaf f ids ps) text refl is

pub placed_adds : (l : ℕ) (c : ColumnTree) → AllByRecursion IsRead (placed l c)
    → AddsAll (placed l c) (c ∷ []) l
placed_adds l c all =
    let ps = within_type (l + 1) c.data_type in
    let last = each_later ps (at l c ∷ []) all in
    one_adds l c ps (type_adds (l + 1) c.data_type _ last.0.format) all

pub all_add : (l : ℕ) (cs : List ColumnTree) → AllByRecursion IsRead (all_placed l cs)
    → AddsAll (all_placed l cs) cs l
all_add l [] all = begins column_of l
all_add l (c ∷ cs) all =
    both_add l (placed l c) (all_placed l cs) (c ∷ []) cs
    (placed_adds l c (each_first (placed l c) (all_placed l cs) all))
    (all_add l cs (each_later (placed l c) (all_placed l cs) all))
