-- The value of a field: it is lean, holds no float, and denotes that field.
use Rattle.std.proofs.Common.{◌≡◌, ◌≤◌, max, ℤ, [], ◌∷◌, Bool, false, IsTrue, inl, inr, None, Some, codes, option_map, option_and_then, refl, ap, arith}
use Rattle.field_lines.proofs.Terms.{and_parts, list_all, Data, number, string, depth, max_depth, of_integer, as_integer, as_str, has_float, items_have_float, members_have_float, UnionMode, Text, Metadata, Plain, Tree, plain, list, large_list, fixed_size_list, struct, union, FieldTrees, no_fields, field, MemberTrees, FieldTree, field_tree, is_type_id, are_distinct, kept, is_size, texts_in, list_of, large_list_of, tree_ids, field_of_value, type_of_value, fields_in, members_in, texts_value, parts_value, type_value, fields_value, members_value, value_of_field, other_value, HasLineForm, FieldsHaveLineForm, MembersHaveLineForm}
use Rattle.serde_json.specs.Data.{members_depth, object, Members, no_members as nothing, member as with_member}
use Rattle.arrow_values.specs.Tree.{null, no_members, member}
use Rattle.arrow_columns.specs.Notation.{plain_name}
use Rattle.field_lines.specs.Names.{plain_named, mode_name, mode_named}
use Rattle.field_lines.specs.Lean.{IsLean, AreLean, IsLeanType}

-- the words
named_plain : (p : Plain) → plain_named (plain_name p) ≡ Some p
named_plain null = refl
named_plain _ = refl

-- the type of a word that is its name
pub plain_at : (word : Text) (p : Plain) → word ≡ plain_name p → Some (plain p) ≡ option_map plain (plain_named word)
plain_at word p is = rw (is, named_plain p)

named_mode : (mode : UnionMode) → mode_named (mode_name mode) ≡ Some mode
named_mode mode = grind arith

-- the numbers
kept-integer : (p : ℤ → Bool) (z : ℤ) → IsTrue (p z) → option_and_then (kept p) (as_integer (of_integer z)) ≡ Some z
kept-integer p z is = grind arith

pub texts_in-value : (m : Metadata) → texts_in (texts_value m) ≡ Some m
texts_in-value [] = refl
texts_in-value (e ∷ es) = ap (λ o. option_and_then (λ text. option_map (λ texts. ((e.0, text) ∷ texts)) o) (as_str (string e.1))) (texts_in-value es)

lean_integer : (z : ℤ) → IsLean (number (of_integer z))
lean_integer z = grind arith

integer_whole : (z : ℤ) → has_float (number (of_integer z)) ≡ false
integer_whole z = grind arith

pub texts_whole : (m : Metadata) → members_have_float (texts_value m) ≡ false
texts_whole [] = refl
texts_whole (e ∷ m) = texts_whole m

-- ---- the value of a field is lean, holds no float, and denotes the field if a line can say it

abbrev IsValue : FieldTree → Data → Type 0
IsValue f d = IsLean d × (has_float d ≡ false) × (HasLineForm f.tree → field_of_value d ≡ Some f)

abbrev IsTypeValue : Tree → Data → Type 0
IsTypeValue t d = IsLeanType d × (has_float d ≡ false) × (HasLineForm t → type_of_value d ≡ Some t)

is_missing : (d : Data) → None ≡ Some d → ⊥
is_missing d e = absurd cc

not_empty : (k : Text) (d : Data) (ms : Members) → Some (object (with_member k d ms)) ≡ Some (object nothing) → ⊥
not_empty k d ms e = absurd cc

other_keys : codes "metadata" ≡ codes "type" → ⊥
other_keys e = absurd cc

parts_are : (n : Text) (t : Tree) (d : Data) (b : Bool) (m : Metadata) → IsTypeValue t d → IsValue (field_tree n t b m) (parts_value n d b m)
parts_are n t d b [] h = ((inr (inl (refl, inl (refl, inl (refl, tt)))), (λ e. tt, (λ e. tt, (λ e. h.0, tt))), is_missing _), rw h.1 refl, λ form. rw (h.2 form))
parts_are n t d b (e ∷ es) h = (
  (inl (refl, inl (refl, inl (refl, inl (refl, tt)))), (λ e. absurd (other_keys e), (λ e. tt, (λ e. tt, (λ e. h.0, tt)))), not_empty _ _ _),
  rw (texts_whole es, h.1) refl,
  λ form. rw (h.2 form, texts_in-value (e ∷ es)),
)

mutual
  type_is : (t : Tree) → IsTypeValue t (type_value t)
  type_is (plain p) = (tt, refl, λ h. ap (option_map plain) (named_plain p))
  type_is (list n t b m) = let f = parts_are n t (type_value t) b m (type_is t) in ((f.0, tt), rw f.1 refl, λ h. ap (option_map list_of) (f.2 h))
  type_is (large_list n t b m) = let f = parts_are n t (type_value t) b m (type_is t) in ((f.0, tt), rw f.1 refl, λ h. ap (option_map large_list_of) (f.2 h))
  type_is (fixed_size_list n t b m s) = let f = parts_are n t (type_value t) b m (type_is t) in
      ((f.0, (lean_integer s, tt)), rw (f.1, integer_whole s) refl, λ h. rw (f.2 h.0, kept-integer is_size s h.1))
  type_is (struct fs) = let f = fields_are fs in ((f.0, tt), rw f.1 refl, λ h. ap (option_map struct) (f.2 h))
  type_is (union ms mode) = let u = members_are ms in
      ((tt, (u.0, tt)), rw u.1 refl, λ h. let parts = and_parts (list_all is_type_id (tree_ids ms)) (are_distinct (tree_ids ms)) h.1 in rw (named_mode mode, u.2 h.0 parts.0, parts.1))

  fields_are : (fs : FieldTrees) → AreLean (fields_value fs) × (items_have_float (fields_value fs) ≡ false) × (FieldsHaveLineForm fs → fields_in (fields_value fs) ≡ Some fs)
  fields_are no_fields = (tt, refl, λ h. refl)
  fields_are (field n t b m fs) = let f = parts_are n t (type_value t) b m (type_is t) in
      let rest = fields_are fs in
      ((f.0, rest.0), rw f.1 rest.1, λ h. rw (f.2 h.0, rest.2 h.1))

  members_are : (ms : MemberTrees) → AreLean (members_value ms) × (items_have_float (members_value ms) ≡ false)
      × (MembersHaveLineForm ms → IsTrue (list_all is_type_id (tree_ids ms)) → members_in (members_value ms) ≡ Some ms)
  members_are no_members = (tt, refl, λ h ids. refl)
  members_are (member i n t b m ms) = let f = parts_are n t (type_value t) b m (type_is t) in
      let rest = members_are ms in (
        ((lean_integer i, (f.0, tt)), rest.0),
        rw (integer_whole i, f.1) rest.1,
        λ h ids. let parts = and_parts (is_type_id i) (list_all is_type_id (tree_ids ms)) ids in rw (kept-integer is_type_id i parts.0, f.2 h.0, rest.2 h.1 parts.1),
      )

pub value_is : (f : FieldTree) → IsValue f (value_of_field f)
value_is f = parts_are f.name f.tree (type_value f.tree) f.nullable f.metadata (type_is f.tree)

pub field_read : (f : FieldTree) → HasLineForm f.tree → field_of_value (value_of_field f) ≡ Some f
field_read f = (value_is f).2

-- a field of the type null is read
pub null_read : (n : Text) (b : Bool) (m : Metadata) → field_of_value (value_of_field (field_tree n (plain null) b m)) ≡ Some (field_tree n (plain null) b m)
null_read n b m = field_read (field_tree n (plain null) b m) tt

-- a field of another type nests two levels
texts_depth : (m : Metadata) → members_depth (texts_value m) ≡ 0
texts_depth [] = refl
texts_depth (e ∷ es) = ap (max 0) (texts_depth es)

pub other_depth : (n t : Text) (b : Bool) (m : Metadata) → depth (other_value n t b m) ≤ max_depth
other_depth n t b [] = omega arith
other_depth n t b (e ∷ es) = omega (arith, texts_depth (e ∷ es))
