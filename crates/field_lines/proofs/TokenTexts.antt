-- An object of texts from tokens: the texts so far are the members so far, until a member is no text; then slots, in which the newest value of a key stands.
use Rattle.std.proofs.Common.{◌≡◌, ◌≤◌, ℕ, List, [], ◌∷◌, ◌++◌, length, map, nat_cmp, IfSome, Option, Some, None, option_map, option_and_then, String, Global, string_bytes, string_cmp, refl, sym, ap, ◌∙◌, subst, arith, append_assoc, append-nil}
use Rattle.field_lines.proofs.Terms.{slice_cmp, IsStrictlySortedBy, keys_of, Token, read_key, parse_map, Data, string, object, Members, no_members, member, put, as_str, Text, Metadata, texts_of, texts_in, metadata_of_value, slots_in, slots_of, texts_kept, texts_value, next_value, next_members, ReadsValue, ReadsMembers, key_refused, member_read, members_over, named}
use Rattle.std.proofs.lemmas.Iterator.Adapters.{option_map_id}
use Rattle.std.proofs.lemmas.List.{map-append}
use Rattle.std.specs.BTreeMap.{insert_entry}
use Rattle.std.specs.String.{string_cmp_total}
use Rattle.field_lines.proofs.TokenMembers.{member_takes, no_member}
use Rattle.field_lines.proofs.Round.{texts_in-value}
use Rattle.field_lines.proofs.Prints.{Texts, insert_last, ordered, texts_put}

pub text_says : (d : Data) → IfSome (as_str d) (λ s. d ≡ string s)
text_says d = grind arith

pub record AreTextsUnderWay (depth : _) (all left : List Token) (made : Texts) : Type 0 where
  pub decides : next_members depth no_members all ≡ next_members depth (texts_value (texts_of made)) left
  pub fewer : length left ≤ length all

pub texts_go_on : {depth : ℕ} {all left s r : List Token} {made new : Texts} {k : Text} (key text : String Global) → AreTextsUnderWay depth all left made → read_key left ≡ Some (Some k, s)
    → ReadsValue as_str depth s (Some (string_bytes text)) r → string_bytes key ≡ k → new ≡ insert_entry string_cmp made key text → AreTextsUnderWay depth all r new
texts_go_on {depth} {all} {left} {s} {r} {made} {new} {k} key text way named read copied is = let d = read.0 in
    let put_in : texts_value (texts_of new) ≡ put k d (texts_value (texts_of made)) =
    rw (is, texts_put made key text, copied, subst (λ o. IfSome o (λ s. d ≡ string s)) (sym read.2) (text_says d)) in
    record {
      decides = way.decides ∙ member_read depth (texts_value (texts_of made)) k left s r d named read.1 ∙ ap (λ ms. next_members depth ms r) (sym put_in);
      fewer = omega (arith, way.fewer, member_takes depth left s r k d named read.1);
    }

pub texts_end : {depth : ℕ} {all left r : List Token} {made : Texts} → AreTextsUnderWay depth all left made → read_key left ≡ Some (None, r) → ReadsMembers texts_in depth no_members all (Some (texts_of made)) r
texts_end {depth} {all} {left} {r} {made} way over = (texts_value (texts_of made), way.decides ∙ members_over depth (texts_value (texts_of made)) left r over, sym (texts_in-value (texts_of made)))

module _ {depth : ℕ} {all left : List Token} {made : Texts} (way : AreTextsUnderWay depth all left made) where
  pub texts_no_key : read_key left ≡ None → next_members depth no_members all ≡ None
  texts_no_key none = way.decides ∙ key_refused depth _ left none

  pub texts_no_member : {s : List Token} {k : Text} → read_key left ≡ Some (Some k, s) → next_value depth s ≡ None → next_members depth no_members all ≡ None
  texts_no_member {s} {k} key refused = way.decides ∙ named depth _ k left s key ∙ no_member depth _ k s refused

abbrev pub SlotEntries : Type 0
SlotEntries = List (String Global × Option (String Global))

-- ---- members and their slots

slots_put : (k : Text) (d : Data) (ms : Members) → slots_in (put k d ms) ≡ insert_entry (slice_cmp nat_cmp) (slots_in ms) k (as_str d)
slots_put k d no_members = refl
slots_put k d (member l e ms) = ordered slots_in (slice_cmp nat_cmp k l) _ _ _ ∙ rw (slots_put k d ms)

slots_insert : (es : SlotEntries) (k : String Global) (t : Option (String Global)) → slots_of (insert_entry string_cmp es k t) ≡ insert_entry (slice_cmp nat_cmp) (slots_of es) (string_bytes k) (option_map string_bytes t)
slots_insert [] k t = refl
slots_insert (e ∷ es) k t = ordered slots_of (string_cmp k e.0) _ _ _ ∙ rw (slots_insert es k t)

-- a slot is put in as the member is
pub slot_put : (found : Members) (made new : SlotEntries) (k : Text) (d : Data) (key : String Global) (t : Option (String Global)) → slots_in found ≡ slots_of made → string_bytes key ≡ k → option_map string_bytes t ≡ as_str d
    → new ≡ insert_entry string_cmp made key t → slots_in (put k d found) ≡ slots_of new
slot_put found made new k d key t same copied text is = slots_put k d found ∙ rw (same, ← copied, ← text, is) (sym (slots_insert made key t))

texts_by_slots : (ms : Members) → texts_in ms ≡ texts_kept (slots_in ms)
texts_by_slots no_members = refl
texts_by_slots (member k d ms) = ap (λ o. option_and_then (λ text. option_map (λ texts. (k, text) ∷ texts) o) (as_str d)) (texts_by_slots ms)

-- ---- the members that are left go into the slots

pub record AreSlotsUnderWay (depth : _) (all left : List Token) (start made : SlotEntries) : Type 0 where
  pub goes_on : (found : Members) → slots_in found ≡ slots_of start → (more : Members) × (next_members depth found all ≡ next_members depth more left) × (slots_in more ≡ slots_of made)
  pub fewer : length left ≤ length all

module _ {depth : ℕ} {all left : List Token} {start made : SlotEntries} (way : AreSlotsUnderWay depth all left start made) where
  pub slots_go_on : {s r : List Token} {new : SlotEntries} {k : Text} (key : String Global) (t : Option (String Global)) → read_key left ≡ Some (Some k, s) → ReadsValue as_str depth s (option_map string_bytes t) r
      → string_bytes key ≡ k → new ≡ insert_entry string_cmp made key t → AreSlotsUnderWay depth all r start new
  slots_go_on {s} {r} {new} {k} key t named read copied is = let d = read.0 in
      record {
        goes_on = λ found same. let more = way.goes_on found same in
            (put k d more.0, more.1 ∙ member_read depth more.0 k left s r d named read.1, slot_put more.0 made new k d key t more.2 copied read.2 is);
        fewer = omega (arith, way.fewer, member_takes depth left s r k d named read.1);
      }

  pub slots_no_key : read_key left ≡ None → (found : Members) → slots_in found ≡ slots_of start → next_members depth found all ≡ None
  slots_no_key none found same = let more = way.goes_on found same in more.1 ∙ key_refused depth more.0 left none

  pub slots_no_member : {s : List Token} {k : Text} → read_key left ≡ Some (Some k, s) → next_value depth s ≡ None → (found : Members) → slots_in found ≡ slots_of start → next_members depth found all ≡ None
  slots_no_member {s} {k} key refused found same = let more = way.goes_on found same in more.1 ∙ named depth more.0 k left s key ∙ no_member depth more.0 k s refused

  pub slots_end : {r : List Token} {o : Option Metadata} → read_key left ≡ Some (None, r) → o ≡ texts_kept (slots_of made) → (found : Members) → slots_in found ≡ slots_of start → ReadsMembers texts_in depth found all o r
  slots_end {r} {o} over is found same = let more = way.goes_on found same in
      (more.0, more.1 ∙ members_over depth more.0 left r over, is ∙ ap texts_kept (sym more.2) ∙ sym (texts_by_slots more.0))

-- at the first member that is no text the slots take over
pub slots_read : (depth below : ℕ) (ts all left : List Token) (slots : SlotEntries) {r : List Token} {o : Option Metadata} (found : Members) → next_value depth ts ≡ parse_map object (next_members below no_members all)
    → next_members below no_members all ≡ next_members below found left → slots_in found ≡ slots_of slots → ((found : Members) → slots_in found ≡ slots_of slots → ReadsMembers texts_in below found left o r)
    → ReadsValue (λ d. metadata_of_value (Some d)) depth ts o r
slots_read depth below ts all left slots found opened decides same read = let ms = read found same in (object ms.0, opened ∙ ap (parse_map object) (decides ∙ ms.1), ms.2)

-- ---- a loop that puts the entries of one map into another: those so far stand before what is left, and all keys ascend

-- what stands before the rest, if there is a rest
abbrev onto : {E : Type 0} → List E → Option (List E) → Option (List E)
onto front o = option_map (λ rest. front ++ rest) o

one_more : {E : Type 0} (front : List E) (e : E) (o : Option (List E)) → onto front (option_map (λ es. e ∷ es) o) ≡ onto (front ++ (e ∷ [])) o
one_more front e o = grind (arith, append_assoc)

abbrev Entries : Type 0 → Type 0
Entries X = List (String Global × X)

abbrev seen_in : {X Z : Type 0} → (X → Z) → Entries X → List (Text × Z)
seen_in seen es = map (λ e. (string_bytes e.0, seen e.1)) es

pub record ArePut {X Y Z : Type 0} (seen : X → Z) (whole : Entries Y → Option (List (Text × Z))) (all : Entries Y) (made : Entries X) (left : _) : Type 0 where
  pub ascending : IsStrictlySortedBy string_cmp (keys_of made ++ keys_of left)
  pub decides : whole all ≡ onto (seen_in seen made) (whole left)

module _ {X Y Z : Type 0} {seen : X → Z} {whole : Entries Y → Option (List (Text × Z))} {all : Entries Y} {made : Entries X} {left : Entries Y} where
  pub put_starts : left ≡ all → made ≡ [] → IsStrictlySortedBy string_cmp (keys_of all) → ArePut seen whole all made left
  put_starts is none sorted = rw (is, none) (record { ascending = sorted; decides = sym (option_map_id (whole all)) })

  pub put_next : {l : Entries Y} {o : _} → ArePut seen whole all made left → left ≡ l → whole l ≡ o → whole all ≡ onto (seen_in seen made) o
  put_next way is law = way.decides ∙ ap (onto (seen_in seen made)) (ap whole is ∙ law)

  pub put_all : ArePut seen whole all made left → left ≡ [] → whole [] ≡ Some [] → Some (seen_in seen made) ≡ whole all
  put_all way none law = sym (put_next way none law ∙ ap Some (append-nil (seen_in seen made)))

  -- one entry goes last
  pub put_one : {new : _} {rest : _} {k : _} {v : Y} (x : X) → ArePut seen whole all made left → left ≡ (k, v) ∷ rest → new ≡ insert_entry string_cmp made k x
      → whole ((k, v) ∷ rest) ≡ option_map (λ es. (string_bytes k, seen x) ∷ es) (whole rest) → ArePut seen whole all new rest
  put_one {new} {rest} {k} {v} x way split is law = let sorted = subst (λ (l : Entries Y). IsStrictlySortedBy string_cmp (keys_of made ++ keys_of l)) split way.ascending in
      let keys = ap (λ l. l ++ keys_of rest) (map-append (λ (e : String Global × X). e.0) made ((k, x) ∷ [])) ∙ append_assoc (keys_of made) (k ∷ []) _ in
      let entries = map-append (λ (e : String Global × X). (string_bytes e.0, seen e.1)) made ((k, x) ∷ []) in
      rw (is ∙ insert_last string_cmp_total made k x (keys_of rest) sorted) (record {
        ascending = subst (IsStrictlySortedBy string_cmp) (sym keys) sorted;
        decides = put_next way split law ∙ one_more (seen_in seen made) (string_bytes k, seen x) (whole rest) ∙ ap (λ m. onto m (whole rest)) (sym entries);
      })

-- a slot for each text
abbrev pub SlotsOfTexts : Texts → SlotEntries → Texts → Type 0
SlotsOfTexts = ArePut (option_map string_bytes) (λ left. Some (slots_in (texts_value (texts_of left))))

-- the texts of the slots
abbrev pub TextsOfSlots : SlotEntries → Texts → SlotEntries → Type 0
TextsOfSlots = ArePut string_bytes (λ left. texts_kept (slots_of left))
