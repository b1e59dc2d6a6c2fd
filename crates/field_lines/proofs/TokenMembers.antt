-- The members of an object from tokens: those of a field, of which the last value at each key counts, and those of a type, with one key or two and no others.
use Rattle.std.proofs.Common.{◌≡◌, ℕ, List, length, Bool, true, false, cond, bytes_eq, nat_cmp, Option, Some, None, option_and_then, codes, refl, sym, ap, ap₂, ◌∙◌, arith, ◌<◌, Less, Greater, not, ◌⊎◌, Result, Ok, Err, IsErrAnd}
use Rattle.field_lines.proofs.Terms.{both_ways, not-true, not-false, slice_cmp, nat_list_cmp_total, tied_itself, Token, read_key, Data, object, Members, no_members, member, put, get_member, as_str, as_bool, as_object, Text, Metadata, Tree, FieldTree, under, metadata_of_value, field_from, field_of_value, type_in, type_of_value, other_of_value, column_type, column_type_of_value, column_from, column_of_value, Types, types_of_value, types_of_members, PartsTree, parts_in, field_of_parts, column_of_parts, are_keys, keyed_at, IsNeither, next_value, next_members, ReadsMembers, next_after, after, ReadsValue, ReadsAfter, no_value, object_too_deep, value-object, member_read, members_over, value_takes, key_refused, after_some, taken, named}
use Rattle.std.proofs.lemmas.Map.Text.{is_eq-slice_cmp}
use Rattle.std.proofs.lemmas.Slice.Eq.{bytes_eq-Decides}
use Rattle.json.proofs.Grammar.{read_key-shorter}
use Rattle.value_tokens.specs.declared.refusal.Refusal.{Refusal}
use Rattle.value_tokens.specs.Presence.{Has}
use Rattle.value_tokens.proofs.Presence.{get_member-put_at, has_taken}

-- what the key that is next leaves
abbrev pub turn : ℕ → Members → Option (Option Text × List Token) → Option (Members × List Token)
turn depth found None = None
turn depth found (Some (None, s)) = Some (found, s)
turn depth found (Some (Some k, s)) = next_after depth found k s

pub member_turn : (depth : ℕ) (found : Members) (ts : List Token) → next_members depth found ts ≡ turn depth found (read_key ts)
member_turn depth found ts = grind (arith, key_refused, members_over, named)

-- a member takes tokens
pub member_takes : (depth : ℕ) (ts s r : List Token) (k : Text) (d : Data) → read_key ts ≡ Some (Some k, s) → next_value depth s ≡ Some (d, r) → length r < length ts
member_takes depth ts s r k d key e = let less = value_takes depth s r d e in let first = read_key-shorter ts (Some k) s key in omega arith

-- and so does a value before a key
pub takes_key : {A : Type 0} {f : Data → A} {a : A} {next : Option Text} (depth : ℕ) (ts s r : List Token)
    → ReadsValue f depth ts a s → read_key s ≡ Some (next, r) → length r < length ts
takes_key {next = next} depth ts s r read key = let less = value_takes depth ts s read.0 read.1 in let first = read_key-shorter s next r key in omega arith

-- what holds where a text is refused holds where a `?` passes that on
pub text_refused : {T P : Type 0} {r : Result T Refusal} {e : Refusal} → IsErrAnd r (λ y. y ≡ e) → (e ≡ Refusal.Text → P) → r ≡ Err Refusal.Text → P
text_refused {r = Ok x} is then same = absurd is
text_refused {r = Err y} is then same = then (cc)

-- members of which the next has no value
pub no_member : (depth : ℕ) (found : Members) (k : Text) (s : List Token) → next_value depth s ≡ None → next_after depth found k s ≡ None
no_member depth found k s refused = ap (option_and_then (λ p. next_members depth (put k p.0 found) p.1)) refused

-- ---- the parts of a field

pub get_member-at : (q k : Text) (d : Data) (ms : Members) → get_member q (member k d ms) ≡ cond (bytes_eq q k) (Some d) (get_member q ms)
get_member-at q k d ms = let same = is_eq-slice_cmp q k in grind arith

-- a value or the others, and what f says of either
chosen : {A : Type 0} (f : Data → Option A) (b : Bool) (d : Data) (found : Option Data) {rest : Option A} → rest ≡ option_and_then f found
    → cond b (f d) rest ≡ option_and_then f (cond b (Some d) found)
chosen f true d found same = refl
chosen f false d found same = same

-- the type is what stands at its key
type_in-get : (ms : Members) → type_in ms ≡ under type_of_value (codes "type") ms
type_in-get no_members = refl
type_in-get (member k d ms) = chosen type_of_value (bytes_eq (codes "type") k) d (get_member (codes "type") ms) (type_in-get ms) ∙ ap (option_and_then type_of_value) (sym (get_member-at (codes "type") k d ms))

-- what f says of what stands at the key q, after d is put at k
put_at : {A : Type 0} (f : Option Data → A) (q k : Text) (d : Data) (found : Members) → f (get_member q (put k d found)) ≡ cond (bytes_eq q k) (f (Some d)) (f (get_member q found))
put_at f q k d found = grind (arith, get_member-put_at)

-- what a value at the key `type` says, where one stands there
abbrev pub types_at : Option Data → Types
types_at o = (option_and_then type_of_value o, option_and_then other_of_value o)

pub record ArePartsUnderWay (depth : _) (all left : List Token) (name : Option Text) (nullable : Option Bool) (types : Types) (metadata : Option Metadata) : Type 0 where
  pub found : Members
  pub decides : next_members depth no_members all ≡ next_members depth found left
  pub at_name : name ≡ under as_str (codes "name") found
  pub at_nullable : nullable ≡ under as_bool (codes "nullable") found
  pub at_types : types ≡ types_at (get_member (codes "type") found)
  pub at_metadata : metadata ≡ metadata_of_value (get_member (codes "metadata") found)

-- a part after a value at the key k
abbrev pub Part : {A : Type 0} → Text → Text → A → A → A → Type 0
Part q k new here old = new ≡ cond (bytes_eq q k) here old

module _ {depth : ℕ} {all left s r : List Token} {k : Text} {d : Data} {name new_name : Option Text} {nullable new_nullable : Option Bool} {types new_types : Types} {metadata new_metadata : Option Metadata} where
  pub parts_go_on : ArePartsUnderWay depth all left name nullable types metadata → read_key left ≡ Some (Some k, s) → next_value depth s ≡ Some (d, r)
      → Part (codes "name") k new_name (as_str d) name → Part (codes "nullable") k new_nullable (as_bool d) nullable → Part (codes "type") k new_types (types_of_value d) types
      → Part (codes "metadata") k new_metadata (metadata_of_value (Some d)) metadata → ArePartsUnderWay depth all r new_name new_nullable new_types new_metadata
  parts_go_on way named read n b t m = record {
    found = put k d way.found;
    decides = way.decides ∙ member_read depth way.found k left s r d named read;
    at_name = n ∙ ap (λ o. cond (bytes_eq (codes "name") k) (as_str d) o) way.at_name ∙ sym (put_at (option_and_then as_str) (codes "name") k d way.found);
    at_nullable = b ∙ ap (λ o. cond (bytes_eq (codes "nullable") k) (as_bool d) o) way.at_nullable ∙ sym (put_at (option_and_then as_bool) (codes "nullable") k d way.found);
    at_types = t ∙ ap (λ o. cond (bytes_eq (codes "type") k) (types_of_value d) o) way.at_types ∙ sym (put_at types_at (codes "type") k d way.found);
    at_metadata = m ∙ ap (λ o. cond (bytes_eq (codes "metadata") k) (metadata_of_value (Some d)) o) way.at_metadata ∙ sym (put_at metadata_of_value (codes "metadata") k d way.found);
  }

module _ {depth : ℕ} {all left : List Token} {name : Option Text} {nullable : Option Bool} {types : Types} {metadata : Option Metadata}
    (way : ArePartsUnderWay depth all left name nullable types metadata) where
  pub parts_no_key : read_key left ≡ None → next_members depth no_members all ≡ None
  parts_no_key none = way.decides ∙ member_turn depth way.found left ∙ ap (turn depth way.found) none

  pub parts_no_member : {s : List Token} {k : Text} → read_key left ≡ Some (Some k, s) → next_value depth s ≡ None → next_members depth no_members all ≡ None
  parts_no_member {s} {k} named refused = way.decides ∙ member_turn depth way.found left ∙ ap (turn depth way.found) named ∙ no_member depth way.found k s refused

  -- at the end the parts are those that the members say
  pub parts_end : {r : List Token} → read_key left ≡ Some (None, r) → ReadsMembers parts_in depth no_members all (record { name = name; nullable = nullable; types = types; metadata = metadata }) r
  parts_end {r} over = let ms = way.found in
      (ms, way.decides ∙ members_over depth ms left r over, rw (way.at_name, way.at_nullable, way.at_types, way.at_metadata) refl)

-- the field of the parts that members say is theirs, and so is the column
pub field_of_parts_in : (ms : Members) → field_of_parts (parts_in ms) ≡ field_of_value (object ms)
field_of_parts_in ms =
    ap (λ t. field_from (under as_str (codes "name") ms) (under as_bool (codes "nullable") ms) t (metadata_of_value (get_member (codes "metadata") ms))) (sym (type_in-get ms))

column_type_at : (o : Option Data) → column_type (option_and_then type_of_value o) (option_and_then other_of_value o) ≡ option_and_then column_type_of_value o
column_type_at None = refl
column_type_at (Some d) = refl

pub column_of_parts_in : (ms : Members) → column_of_parts (parts_in ms) ≡ column_of_value (object ms)
column_of_parts_in ms =
    ap (λ t. column_from (under as_str (codes "name") ms) (under as_bool (codes "nullable") ms) t (metadata_of_value (get_member (codes "metadata") ms))) (column_type_at (get_member (codes "type") ms))

-- what is made of the parts that were read is what is made of those of the members
pub of_parts : {A : Type 0} (f : PartsTree → A) (g : Members → A) (depth : ℕ) (ts : List Token) {r : List Token} {p : PartsTree} {a : A} → ((ms : Members) → f (parts_in ms) ≡ g ms)
    → ReadsMembers parts_in depth no_members ts p r → a ≡ f p → ReadsMembers g depth no_members ts a r
of_parts f g depth ts law read is = (read.0, read.1, is ∙ ap f read.2 ∙ law read.0)

-- how a type begins
pub ruleset type_begins = (no_value, object_too_deep, value-object)

-- what is no object and no text denotes no type, and no other one
pub no_types : (d : Data) → as_object d ≡ None → as_str d ≡ None → (None, None) ≡ types_of_value d
no_types d e f = grind arith

-- a part at another key
pub part_other : {A : Type 0} {q k : Text} (here : A) {old : A} → (k ≡ q → ⊥) → Part q k old here old
part_other {q = q} {k} here {old} other = grind (arith, bytes_eq-Decides q k)

-- ---- the keys of a type

-- what stands at a key of one member is at that member's key, and of two members one has the key
only_key : (q k : Text) (d : Data) → Has q (member k d no_members) → q ≡ k
only_key q k d h = let same = is_eq-slice_cmp q k in grind (arith, bytes_eq-Decides)

either_key : (u k l : Text) (d e : Data) → Has u (member k d (member l e no_members)) → (u ≡ k) ⊎ (u ≡ l)
either_key u k l d e h = let same = is_eq-slice_cmp u k in grind (arith, bytes_eq-Decides, only_key u l e)

is_no_pair : (q k l m n : Text) → IsNeither m n q → (q ≡ k) ⊎ (q ≡ l) → are_keys k l m n ≡ false
is_no_pair q k l m n none one = grind (arith, bytes_eq-Decides)

abbrev pub denoted : Members → Option Tree
denoted ms = type_of_value (object ms)

abbrev pub notated : Members → Option Text
notated ms = other_of_value (object ms)

-- members of which one has no key of a fixed size list and one has no key of a union denote a type only by their one key
pub no_type_of : {q u v : Text} (ms : Members) → IsNeither (codes "fixed_size_list") (codes "size") q → IsNeither (codes "mode") (codes "union") u → Has q ms → Has u ms → Has v ms
    → ((d : Data) → q ≡ v → u ≡ v → None ≡ keyed_at v d) → None ≡ denoted ms
no_type_of (member k d no_members) size union a b c one = grind (arith, only_key)
no_type_of {q} {u} {v} (member k d (member l e no_members)) size union a b c one =
    rw (is_no_pair q k l (codes "fixed_size_list") (codes "size") size (either_key q k l d e a), is_no_pair u k l (codes "mode") (codes "union") union (either_key u k l d e b))
no_type_of _ size union a b c one = refl

-- members of two keys are no other type
pub no_notation_of : {q v : Text} (ms : Members) → Has q ms → Has v ms → (q ≡ v → ⊥) → None ≡ other_of_value (object ms)
no_notation_of no_members a b other = refl
no_notation_of {q} {v} (member k d no_members) a b other = absurd (other (only_key q k d a ∙ sym (only_key v k d b)))
no_notation_of (member k d (member l e ms)) a b other = refl

-- nor are those of a key that is not `other`; those that have this key denote no type
pub no_notation : {q : Text} (ms : Members) → Has q ms → (q ≡ codes "other" → ⊥) → None ≡ other_of_value (object ms)
no_notation no_members a not_other = refl
no_notation {q} (member k d no_members) a not_other = let same = only_key q k d a in grind (arith, bytes_eq-Decides)
no_notation (member k d (member l e ms)) a not_other = refl

pub only_notation : (ms : Members) → Has (codes "other") ms → None ≡ denoted ms
only_notation ms has = no_type_of {q = codes "other"} {u = codes "other"} {v = codes "other"} ms (grind arith) (grind arith) has has has (λ d _ _. refl)

-- of members that begin with another key than `other` the type decides, and of those that begin with it the notation
pub types_known : (depth : ℕ) (ts : List Token) {r : List Token} {k : Text} {s : List Token} {o : Option Tree} → read_key ts ≡ Some (Some k, s) → (k ≡ codes "other" → ⊥)
    → ReadsAfter denoted depth no_members k s o r → ReadsMembers types_of_members depth no_members ts (o, None) r
types_known depth ts {r} {k} {s} key not_other read = let ms = read.0 in
    (ms, named depth no_members k ts s key ∙ read.1, ap₂ (λ t n. (t, n)) read.2 (no_notation ms (has_taken depth k no_members ms s r read.1) not_other))

pub types_other : (depth : ℕ) (ts : List Token) {r s : List Token} {o : Option Text} → read_key ts ≡ Some (Some (codes "other"), s)
    → ReadsAfter notated depth no_members (codes "other") s o r → ReadsMembers types_of_members depth no_members ts (None, o) r
types_other depth ts {r} {s} key read = let ms = read.0 in
    (ms, named depth no_members (codes "other") ts s key ∙ read.1, ap₂ (λ t n. (t, n)) (only_notation ms (has_taken depth (codes "other") no_members ms s r read.1)) read.2)

-- a value at a key and the members after it are skipped
pub skipped_after : (depth : ℕ) (found : Members) (k : Text) (s : List Token) {u r : List Token} → after (next_value depth s) ≡ Some u
    → ((more : Members) → after (next_members depth more u) ≡ Some r) → after (next_after depth found k s) ≡ Some r
skipped_after depth found k s {u} passed rest = let d = after_some (next_value depth s) u passed in ap after (taken depth found k s u d.0 d.1) ∙ rest (put k d.0 found)

-- the same where one of them cannot be read
pub skipped_none : (depth : ℕ) (found : Members) (k : Text) (s : List Token) {u : List Token} → after (next_value depth s) ≡ Some u
    → ((more : Members) → next_members depth more u ≡ None) → next_after depth found k s ≡ None
skipped_none depth found k s {u} passed none = let d = after_some (next_value depth s) u passed in taken depth found k s u d.0 d.1 ∙ none (put k d.0 found)

-- members of which a key is read first
pub after_key : {A : Type 0} (f : Members → A) (depth : ℕ) (ts : List Token) {k : Text} {s r : List Token} {o : A} → read_key ts ≡ Some (Some k, s) → ReadsAfter f depth no_members k s o r → ReadsMembers f depth no_members ts o r
after_key f depth ts {k} {s} key read = (read.0, named depth no_members k ts s key ∙ read.1, read.2)

-- members that are skipped, of which one has the key that was read
skipped : (depth : ℕ) (found : Members) (k : Text) (s : List Token) {r : List Token} → after (next_after depth found k s) ≡ Some r
    → (ms : Members) × (next_after depth found k s ≡ Some (ms, r)) × Has k ms
skipped depth found k s {r} rest = let ms = after_some (next_after depth found k s) r rest in (ms.0, ms.1, has_taken depth k found ms.0 s r ms.1)

-- ---- one key

pub record IsOnlyUnderWay {A : Type 0} (f : Data → A) (depth : _) (only : Text) (all left : List Token) (answer : A) : Type 0 where
  pub value : Data
  pub decides : next_after depth no_members only all ≡ next_members depth (member only value no_members) left
  pub answers : answer ≡ f value

pub only_starts : {A : Type 0} {f : Data → A} {depth : ℕ} {only : Text} {all left : List Token} {answer : A} → ReadsValue f depth all answer left → IsOnlyUnderWay f depth only all left answer
only_starts {depth = depth} {only} {all} {left} read = record { value = read.0; decides = taken depth no_members only all left read.0 read.1; answers = read.2 }

put_only : (k : Text) (d e : Data) → put k d (member k e no_members) ≡ member k d no_members
put_only k d e = rw (tied_itself nat_list_cmp_total k)

module _ {A : Type 0} {f : Data → A} {depth : ℕ} {only : Text} {all left : List Token} {answer : A} (way : IsOnlyUnderWay f depth only all left answer) where
  pub only_no_key : read_key left ≡ None → next_after depth no_members only all ≡ None
  only_no_key none = way.decides ∙ member_turn depth (member only way.value no_members) left ∙ ap (turn depth (member only way.value no_members)) none

  pub only_ends : {r : List Token} → read_key left ≡ Some (None, r) → next_after depth no_members only all ≡ Some (member only way.value no_members, r)
  only_ends {r} over = way.decides ∙ members_over depth (member only way.value no_members) left r over

  only_came : {s : List Token} {k : Text} → read_key left ≡ Some (Some k, s) → next_after depth no_members only all ≡ next_after depth (member only way.value no_members) k s
  only_came {s} {k} e = way.decides ∙ named depth (member only way.value no_members) k left s e

  pub only_no_member : {s : List Token} {k : Text} → read_key left ≡ Some (Some k, s) → next_value depth s ≡ None → next_after depth no_members only all ≡ None
  only_no_member {s} {k} e refused = only_came e ∙ no_member depth (member only way.value no_members) k s refused

  pub only_none : {s : List Token} {k : Text} → read_key left ≡ Some (Some k, s) → ((found : Members) (key : Text) → next_after depth found key s ≡ None) → next_after depth no_members only all ≡ None
  only_none {s} {k} e none = only_came e ∙ none (member only way.value no_members) k

  pub only_go_on : {s : List Token} {k : Text} {r : List Token} {new : A} {b : Bool} → read_key left ≡ Some (Some k, s) → b ≡ not (bytes_eq k only) → b ≡ false → ReadsValue f depth s new r
      → IsOnlyUnderWay f depth only all r new
  only_go_on {s} {k} {r} named e same read = let is : k ≡ only = (bytes_eq-Decides k only).0 (not-false _ (sym e ∙ same)) in
      record {
        value = read.0;
        decides = way.decides ∙ member_read depth (member only way.value no_members) k left s r read.0 named read.1 ∙ rw (is, put_only only read.0 way.value);
        answers = read.2;
      }

  -- another key is there, with which the members say nothing
  pub only_spoiled : {B : Type 0} {g : Members → B} {o : B} {s : List Token} {k : Text} {r : List Token} {b : Bool}
      → ((ms : Members) → Has only ms → Has k ms → (only ≡ k → ⊥) → o ≡ g ms) → read_key left ≡ Some (Some k, s)
      → b ≡ not (bytes_eq k only) → b ≡ true → ((found : Members) (key : Text) → after (next_after depth found key s) ≡ Some r) → ReadsAfter g depth no_members only all o r
  only_spoiled {s = s} {k} {r} none came e differs rest = let found = member only way.value no_members in
      let ms = skipped depth found k s (rest found k) in
      let read = only_came came ∙ ms.1 in
      (ms.0, read, none ms.0 (has_taken depth only no_members ms.0 all r read) ms.2 (λ is. both_ways _ (not-true _ (sym e ∙ differs)) ((bytes_eq-Decides k only).1 (sym is))))

-- a type by one key, with another key beside it
pub keyed_alone : {only k : Text} → IsNeither (codes "fixed_size_list") (codes "size") only × IsNeither (codes "mode") (codes "union") only
    → (ms : Members) → Has only ms → Has k ms → (only ≡ k → ⊥) → None ≡ denoted ms
keyed_alone none ms has here other = no_type_of ms none.0 none.1 has has here (λ d is _. absurd (other is))

-- the notation at the one key `other`
pub notation_end : {depth : ℕ} {all left r : List Token} {answer : Option Text} → IsOnlyUnderWay as_str depth (codes "other") all left answer → read_key left ≡ Some (None, r)
    → ReadsAfter notated depth no_members (codes "other") all answer r
notation_end way over = (member (codes "other") way.value no_members, only_ends way over, way.answers)

-- ---- two keys

-- the value at one key and at another, where they are there
abbrev pub with_key : Text → Option Data → Members → Members
with_key k None ms = ms
with_key k (Some d) ms = member k d ms

abbrev pub two : Text → Text → Option Data → Option Data → Members
two k l a b = with_key k a (with_key l b no_members)

pub record AreTwoUnderWay {A B : Type 0} (f : Data → Option A) (g : Data → Option B) (k l : Text) (depth : _) (first : Text) (all left : List Token) (next : Option Text) (x : Option A) (y : Option B) : Type 0 where
  pub at_first : Option Data
  pub at_second : Option Data
  pub decides : next_after depth no_members first all ≡ turn depth (two k l at_first at_second) (Some (next, left))
  pub answers : (x ≡ option_and_then f at_first) × (y ≡ option_and_then g at_second)

-- keys that stand in this order
abbrev pub AreOrdered : Text → Text → Type 0
AreOrdered k l = (slice_cmp nat_cmp k l ≡ Less) × (slice_cmp nat_cmp l k ≡ Greater)

put_first : (k l : Text) (d : Data) (a b : Option Data) → AreOrdered k l → put k d (two k l a b) ≡ two k l (Some d) b
put_first k l d a b h = grind (arith, tied_itself nat_list_cmp_total k)

put_second : (k l : Text) (d : Data) (a b : Option Data) → AreOrdered k l → put l d (two k l a b) ≡ two k l a (Some d)
put_second k l d a b h = grind (arith, put_only)

module _ {A B : Type 0} {f : Data → Option A} {g : Data → Option B} {k l : Text} {depth : ℕ} {first : Text} {all left : List Token} {now : Option Text} {x : Option A} {y : Option B}
    (before : AreTwoUnderWay f g k l depth first all left now x y) {q : Text} (came : now ≡ Some q) where
  took : {C : Type 0} {h : Data → C} {o : C} {r s : List Token} {next : Option Text} {new_x : _} {new_y : _} (a b : _) (read : ReadsValue h depth left o r)
      → read_key r ≡ Some (next, s) → put q read.0 (two k l before.at_first before.at_second) ≡ two k l a b
      → (new_x ≡ option_and_then f a) × (new_y ≡ option_and_then g b) → AreTwoUnderWay f g k l depth first all s next new_x new_y
  took {r = r} {s} {next} a b read e same answers = record {
    at_first = a;
    at_second = b;
    decides = before.decides ∙ ap (λ n. turn depth (two k l before.at_first before.at_second) (Some (n, left))) came
        ∙ taken depth _ q left r read.0 read.1 ∙ ap (λ ms. next_members depth ms r) same ∙ member_turn depth _ r ∙ ap (turn depth _) e;
    answers = answers;
  }

  two_came : next_after depth no_members first all ≡ next_after depth (two k l before.at_first before.at_second) q left
  two_came = before.decides ∙ ap (λ n. turn depth (two k l before.at_first before.at_second) (Some (n, left))) came

  pub two_no_key : {C : Type 0} {h : Data → C} {o : C} {r : List Token} → ReadsValue h depth left o r → read_key r ≡ None → next_after depth no_members first all ≡ None
  two_no_key {r = r} read none = two_came ∙ taken depth _ q left r read.0 read.1 ∙ member_turn depth _ r ∙ ap (turn depth _) none

  pub two_no_value : next_value depth left ≡ None → next_after depth no_members first all ≡ None
  two_no_value refused = two_came ∙ no_member depth _ q left refused

  -- a third key beside the two
  pub two_none : ((found : Members) (key : Text) → next_after depth found key left ≡ None) → next_after depth no_members first all ≡ None
  two_none none = two_came ∙ none _ q

  pub two_spoiled : {r : List Token} → ((found : Members) (key : Text) → after (next_after depth found key left) ≡ Some r)
      → ((ms : Members) → Has q ms → Has first ms → None ≡ denoted ms) → ReadsAfter denoted depth no_members first all None r
  two_spoiled {r} rest none = let found = two k l before.at_first before.at_second in
      let ms = skipped depth found q left (rest found q) in
      let read = before.decides ∙ ap (λ n. turn depth found (Some (n, left))) came ∙ ms.1 in
      (ms.0, read, none ms.0 ms.2 (has_taken depth first no_members ms.0 all r read))

module _ {A B : Type 0} {f : Data → Option A} {g : Data → Option B} {k l : Text} {depth : ℕ} {first : Text} {all left : List Token} {now : Option Text} {x : Option A} {y : Option B}
    (ordered : AreOrdered k l) (way : AreTwoUnderWay f g k l depth first all left now x y) {r s : List Token} {next : Option Text} where
  pub first_read : {new : Option A} → now ≡ Some k → ReadsValue f depth left new r → read_key r ≡ Some (next, s) → AreTwoUnderWay f g k l depth first all s next new y
  first_read came read e = took way came (Some read.0) way.at_second read e (put_first k l read.0 way.at_first way.at_second ordered) (read.2, way.answers.1)

  pub second_read : {new : Option B} → now ≡ Some l → ReadsValue g depth left new r → read_key r ≡ Some (next, s) → AreTwoUnderWay f g k l depth first all s next x new
  second_read came read e = took way came way.at_first (Some read.0) read e (put_second k l read.0 way.at_first way.at_second ordered) (way.answers.0, read.2)

-- a key that is one of two, and none of the others
pub of_fixed_size_list : {q : Text} → (q ≡ codes "fixed_size_list") ⊎ (q ≡ codes "size") → IsNeither (codes "mode") (codes "union") q × ((d : Data) → None ≡ keyed_at q d)
of_fixed_size_list one = grind arith

pub of_union : {q : Text} → (q ≡ codes "mode") ⊎ (q ≡ codes "union") → IsNeither (codes "fixed_size_list") (codes "size") q × ((d : Data) → None ≡ keyed_at q d)
of_union one = grind arith

pub not_keyed : (k : Text) (d : Data) → (k ≡ codes "list" → ⊥) → (k ≡ codes "large_list" → ⊥) → (k ≡ codes "struct" → ⊥) → None ≡ keyed_at k d
not_keyed k d list large struct = grind (arith, bytes_eq-Decides k)
