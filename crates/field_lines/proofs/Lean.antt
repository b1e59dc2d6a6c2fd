-- A value that denotes a field is that field's value, if it is lean; and a line can say the field.
use Rattle.std.proofs.Common.{◌≡◌, ℤ, List, [], ◌∷◌, Bool, true, cond, Option, Some, None, IfSome, IsTrue, IsUtf8, option_map, option_and_then, inl, inr, codes, bytes_eq, Less, Greater, nat_cmp, refl, sym, ap, ap₂, subst, ◌∙◌, arith}
use Rattle.field_lines.proofs.Terms.{nat_list_cmp_total, tied_itself, and_from, cond_both, false_from_ne_true, IfSome_then, IsUtf8-from_is_utf8, is_utf8-from_IsUtf8, slice_cmp, find, list_all, is_utf8, Data, boolean, number, string, array, object, Items, no_items, item, Members, no_members, member, of_integer, get_member, as_str, as_bool, read, UnionMode, Text, Metadata, Tree, struct, union, MemberTrees, FieldTree, field_tree, is_type_id, are_distinct, field_from, integer_of, kept, is_size, size_of_value, id_of_value, mode_of_value, texts_in, metadata_of_value, member_before, list_of, large_list_of, fixed_size_list_of, tree_ids, union_of, are_keys, field_of_value, type_in, type_of_value, fields_of_value, fields_in, members_of_value, members_in, texts_value, with_metadata, one_key, two_keys, type_value, fields_value, members_value, value_of_field, field_of_line, HasLineForm, FieldsHaveLineForm, MembersHaveLineForm}
use Rattle.std.proofs.lemmas.Slice.Eq.{bytes_eq-Decides}
use Rattle.arrow_columns.specs.Notation.{plain_name}
use Rattle.field_lines.specs.Names.{plain_types, mode_name}
use Rattle.field_lines.proofs.TokenMembers.{get_member-at, with_key}
use Rattle.field_lines.proofs.TokenTexts.{text_says}
use Rattle.field_lines.specs.Lean.{field_keys, HaveKeysOf, IsLean, AreLean, HasLeanType, IsLeanType}

-- ---- members of a field's keys alone are what is found under these keys

abbrev found : List Text → Members → Members
found [] ms = no_members
found (k ∷ ks) ms = with_key k (get_member k ms) (found ks ms)

abbrev IsBefore : Text → List Text → Type 0
IsBefore q [] = Unit {0}
IsBefore q (k ∷ ks) = (slice_cmp nat_cmp q k ≡ Less) × (slice_cmp nat_cmp k q ≡ Greater) × IsBefore q ks

abbrev AreOrdered : List Text → Type 0
AreOrdered [] = Unit {0}
AreOrdered (k ∷ ks) = IsBefore k ks × AreOrdered ks

not_found : (q : Text) (ks : List Text) (ms : Members) → IsBefore q ks → HaveKeysOf ks ms → get_member q ms ≡ None
not_found q ks no_members h keys = refl
not_found q [] (member k d ms) h keys = absurd keys
not_found q (l ∷ ks) (member k d ms) h (inl keys) = rw (keys.0, h.0) (not_found q ks ms h.2 keys.1)
not_found q (l ∷ ks) (member k d ms) h (inr keys) = not_found q ks (member k d ms) h.2 keys

-- a member before the keys is not found under them
passed : (q : Text) (ks : List Text) (d : Data) (ms : Members) → IsBefore q ks → found ks (member q d ms) ≡ found ks ms
passed q [] d ms h = refl
passed q (k ∷ ks) d ms h = rw (h.1, passed q ks d ms h.2)

are_found : (ks : List Text) (ms : Members) → AreOrdered ks → HaveKeysOf ks ms → ms ≡ found ks ms
are_found [] no_members order keys = refl
are_found [] (member k d ms) order keys = absurd keys
are_found (q ∷ ks) no_members order keys = are_found ks no_members order.1 tt
are_found (q ∷ ks) (member k d ms) order (inl keys) =
    rw (keys.0, tied_itself nat_list_cmp_total q, passed q ks d ms order.0) (ap (member q d) (are_found ks ms order.1 keys.1))
are_found (q ∷ ks) (member k d ms) order (inr keys) = rw (not_found q ks (member k d ms) order.0 keys) (are_found ks (member k d ms) order.1 keys)

field_keys_ordered : AreOrdered field_keys
field_keys_ordered = ((refl, refl, (refl, refl, (refl, refl, tt))), ((refl, refl, (refl, refl, tt)), ((refl, refl, tt), (tt, tt))))

-- ---- what is read says two things: a line can say it, and a lean value that denotes it is its value

-- what holds of an answer, by what holds of its parts
pub mapped : {A B : Type 0} {P : A → Type 0} (Q : B → Type 0) (f : A → B) (o : Option A) → IfSome o P → ((x : A) → P x → Q (f x)) → IfSome (option_map f o) Q
mapped Q f o h k = grind arith

pub chained : {A B : Type 0} {P : A → Type 0} (Q : B → Type 0) (f : A → Option B) (o : Option A) → IfSome o P → ((x : A) → P x → IfSome (f x) Q) → IfSome (option_and_then f o) Q
chained Q f o h k = grind arith

pub if_some : {A : Type 0} (P : A → Type 0) (o : Option A) → ((x : A) → o ≡ Some x → P x) → IfSome o P
if_some P o h = grind arith

-- what stands at a key, by what is read there
there : {A : Type 0} (f : Data → Option A) (g : A → Data) → ((d : Data) → IfSome (f d) (λ x. d ≡ g x)) → (o : Option Data)
    → IfSome (option_and_then f o) (λ x. o ≡ Some (g x))
there f g h o = grind arith

bool_says : (d : Data) → IfSome (as_bool d) (λ b. d ≡ boolean b)
bool_says d = grind arith

pub texts_say : (ms : Members) → IfSome (texts_in ms) (λ m. ms ≡ texts_value m)
texts_say no_members = refl
texts_say (member k d ms) = let one = text_says d in let rest = texts_say ms in grind arith

metadata_says : (o : Option Data)
    → IfSome (metadata_of_value o) (λ m. (rest : Members) → (o ≡ Some (object no_members) → ⊥) → with_key (codes "metadata") o rest ≡ with_metadata m rest)
metadata_says None = λ rest full. refl
metadata_says (Some (object ms)) = let says = texts_say ms in grind arith
metadata_says (Some _) = tt

parts_say : {N : Text → Type 0} {B : Bool → Type 0} {T : Tree → Type 0} {M : Metadata → Type 0} (Q : FieldTree → Type 0) (n : _) (b : _) (t : _) (m : _)
    → IfSome n N → IfSome b B → IfSome t T → IfSome m M → ((n : _) (b : _) (t : _) (m : _) → N n → B b → T t → M m → Q (field_tree n t b m))
    → IfSome (field_from n b t m) Q
parts_say Q n b t m at_name at_nullable at_type at_metadata all = grind arith

-- ---- words and numbers

find_holds : {A : Type 0} (p : A → Bool) (xs : List A) → IfSome (find p xs) (λ x. p x ≡ true)
find_holds p [] = tt
find_holds p (x ∷ xs) = let rest = find_holds p xs in grind arith

mode_says : (d : Data) → IfSome (mode_of_value d) (λ mode. d ≡ string (mode_name mode))
mode_says d = grind (arith, bytes_eq-Decides)

-- a number that is kept has the property
abbrev SaysNumber : (ℤ → Bool) → Data → ℤ → Type 0
SaysNumber p d z = IsTrue (p z) × (IsLean d → d ≡ number (of_integer z))

kept_says : (p : ℤ → Bool) (d : Data) (z : ℤ) → (IsLean d → d ≡ number (of_integer z)) → IfSome (kept p z) (SaysNumber p d)
kept_says p d z is = grind arith

integer_says : (p : ℤ → Bool) (d : Data) → IfSome (option_and_then (kept p) (integer_of d)) (SaysNumber p d)
integer_says p d = grind (arith, kept_says)

-- ---- objects of one key and of two

abbrev SaysField : Data → FieldTree → Type 0
SaysField d f = HasLineForm f.tree × (IsLean d → d ≡ value_of_field f)

abbrev SaysType : Data → Tree → Type 0
SaysType d t = HasLineForm t × (IsLeanType d → d ≡ type_value t)

abbrev SaysTypeIn : Members → Tree → Type 0
SaysTypeIn ms t = HasLineForm t × (HasLeanType ms → get_member (codes "type") ms ≡ Some (type_value t))

abbrev SaysMembers : {A : Type 0} → Type 0 → A → A → MemberTrees → Type 0
SaysMembers lean d e ms = (MembersHaveLineForm ms × IsTrue (list_all is_type_id (tree_ids ms))) × (lean → d ≡ e)

-- the value at one key, which g writes, or else what comes after
keyed : {A : Type 0} (k l : Text) (d : Data) (f : A → Tree) (g : A → Data) (o : Option A) (rest : Option Tree) → ((x : A) → one_key l (g x) ≡ type_value (f x))
    → IfSome o (λ x. HasLineForm (f x) × (IsLean d → d ≡ g x)) → IfSome rest (SaysType (one_key k d))
    → IfSome (cond (bytes_eq k l) (option_map f o) rest) (SaysType (one_key k d))
keyed k l d f g o rest law own next = grind (arith, bytes_eq-Decides, law)

keys_are : (k l p q : Text) {d e x y : Data} → are_keys k l p q ≡ true → d ≡ x → e ≡ y → two_keys k d l e ≡ two_keys p x q y
keys_are k l p q h first second = grind (arith, bytes_eq-Decides)

two_keyed : (k l : Text) (d e : Data) → IfSome (field_of_value d) (SaysField d)
    → IfSome (members_of_value e) (λ ms. SaysMembers (IsLean e) e (array (members_value ms)) ms)
    → IfSome (type_of_value (two_keys k d l e)) (SaysType (two_keys k d l e))
two_keyed k l d e own all =
    let sized = λ (f : FieldTree). option_map (fixed_size_list_of f) (size_of_value e) in
    let united = λ (mode : UnionMode). option_and_then (union_of mode) (members_of_value e) in
    cond_both (are_keys k l (codes "fixed_size_list") (codes "size")) (option_and_then sized (field_of_value d)) (cond (are_keys k l (codes "mode") (codes "union")) (option_and_then united (mode_of_value d)) None)
    (λ x. IfSome x (SaysType (two_keys k d l e)))
    (λ h. chained _ sized (field_of_value d) own (λ f x. mapped _ (fixed_size_list_of f) (size_of_value e) (integer_says is_size e)
    (λ s y. ((x.0, y.0), λ lean. keys_are k l (codes "fixed_size_list") (codes "size") h (x.1 lean.0) (y.1 lean.1.0)))))
    (λ _. cond_both (are_keys k l (codes "mode") (codes "union")) (option_and_then united (mode_of_value d)) None (λ x. IfSome x (SaysType (two_keys k d l e)))
    (λ h. chained _ united (mode_of_value d) (mode_says d) (λ mode is. chained _ (union_of mode) (members_of_value e) all
    (λ ms x. cond_both (are_distinct (tree_ids ms)) (Some (union ms mode)) None (λ o. IfSome o (SaysType (two_keys k d l e)))
    (λ distinct. ((x.0.0, and_from _ _ x.0.1 distinct), λ lean. keys_are k l (codes "mode") (codes "union") h is (x.1 lean.1.0))) (λ _. tt))))
    (λ _. tt))

-- ---- what a value says

mutual
  field_says : (d : Data) → IfSome (field_of_value d) (SaysField d)
  field_says (object ms) =
      let names = there as_str string text_says (get_member (codes "name") ms) in
      let nullables = there as_bool boolean bool_says (get_member (codes "nullable") ms) in
      let metadatas = metadata_says (get_member (codes "metadata") ms) in
      parts_say (SaysField (object ms)) _ _ (type_in ms) _ names nullables (type_in_says ms) metadatas (λ n b t m name nullable type metadata. (
        type.0,
        λ lean. ap object (are_found field_keys ms field_keys_ordered lean.0 ∙ rw (name, nullable, type.1 lean.1) (metadata _ lean.2)),
      ))
  field_says _ = tt

  type_in_says : (ms : Members) → IfSome (type_in ms) (SaysTypeIn ms)
  type_in_says no_members = tt
  type_in_says (member k d ms) =
      cond_both (bytes_eq (codes "type") k) (type_of_value d) (type_in ms) (λ o. IfSome o (SaysTypeIn (member k d ms)))
      (λ e. let same = sym ((bytes_eq-Decides (codes "type") k).0 e) in
      IfSome_then (type_of_value d) (type_says d) (λ t h. (h.0, λ lean. rw (get_member-at (codes "type") k d ms, e) (ap Some (h.1 (lean.0 same))))))
      (λ e. IfSome_then (type_in ms) (type_in_says ms) (λ t h. (h.0, λ lean. rw (get_member-at (codes "type") k d ms, e) (h.1 lean.1))))

  type_says : (d : Data) → IfSome (type_of_value d) (SaysType d)
  type_says (string word) = let says = find_holds (λ p. bytes_eq word (plain_name p)) plain_types in grind (arith, bytes_eq-Decides)
  type_says (object (member k d no_members)) =
      keyed k (codes "list") d list_of value_of_field (field_of_value d) _ (λ f. refl) (field_says d)
      (keyed k (codes "large_list") d large_list_of value_of_field (field_of_value d) _ (λ f. refl) (field_says d)
      (keyed k (codes "struct") d struct (λ fs. array (fields_value fs)) (fields_of_value d) None (λ fs. refl) (fields_say d) tt))
  type_says (object (member k d (member l e no_members))) = two_keyed k l d e (field_says d) (members_say e)
  type_says _ = tt

  fields_say : (d : Data) → IfSome (fields_of_value d) (λ fs. FieldsHaveLineForm fs × (IsLean d → d ≡ array (fields_value fs)))
  fields_say (array ds) = IfSome_then (fields_in ds) (fields_in_say ds) (λ fs h. (h.0, λ lean. ap array (h.1 lean)))
  fields_say _ = tt

  fields_in_say : (ds : Items) → IfSome (fields_in ds) (λ fs. FieldsHaveLineForm fs × (AreLean ds → ds ≡ fields_value fs))
  fields_in_say no_items = (tt, λ lean. refl)
  fields_in_say (item d ds) = let one = field_says d in let rest = fields_in_say ds in grind arith

  members_say : (d : Data) → IfSome (members_of_value d) (λ ms. SaysMembers (IsLean d) d (array (members_value ms)) ms)
  members_say (array ds) = IfSome_then (members_in ds) (members_in_say ds) (λ ms h. (h.0, λ lean. ap array (h.1 lean)))
  members_say _ = tt

  members_in_say : (ds : Items) → IfSome (members_in ds) (λ ms. SaysMembers (AreLean ds) ds (members_value ms) ms)
  members_in_say no_items = ((tt, refl), λ lean. refl)
  members_in_say (item (array (item i (item d no_items))) ds) =
      chained _ (λ id. option_and_then (λ f. option_map (member_before id f) (members_in ds)) (field_of_value d)) (id_of_value i) (integer_says is_type_id i)
      (λ id x. chained _ (λ f. option_map (member_before id f) (members_in ds)) (field_of_value d) (field_says d)
      (λ f y. mapped _ (member_before id f) (members_in ds) (members_in_say ds) (λ ms z. (
        ((y.0, z.0.0), and_from (is_type_id id) _ x.0 z.0.1),
        λ lean. ap₂ item (ap₂ (λ a b. array (item a (item b no_items))) (x.1 lean.0.0) (y.1 lean.0.1.0)) (z.1 lean.1),
      ))))
  members_in_say (item _ ds) = tt

pub lean_value_is : (f : FieldTree) (d : Data) → IsLean d → field_of_value d ≡ Some f → d ≡ value_of_field f
lean_value_is f d lean is = let says = subst (λ o. IfSome o (SaysField d)) is (field_says d) in says.1 lean

-- ---- a line

pub line_form : (line : Text) (o : Option FieldTree) → o ≡ field_of_line line → IfSome o (λ f. HasLineForm f.tree)
line_form line o is = grind (arith, field_says)

pub line_field : (line : Text) → IsUtf8 line → field_of_line line ≡ option_and_then field_of_value (read line)
line_field line h = ap (λ b. option_and_then field_of_value (cond b (read line) None)) (is_utf8-from_IsUtf8 line h)

pub line_no_text : (line : Text) → (IsUtf8 line → ⊥) → None ≡ field_of_line line
line_no_text line h = sym (ap (λ b. option_and_then field_of_value (cond b (read line) None)) (false_from_ne_true (is_utf8 line) (λ e. h (IsUtf8-from_is_utf8 line e))))
