-- Metadata that are written are read.
use Rattle.std.proofs.Common.{◌≡◌, ℕ, ◌+◌, ◌*◌, ◌^◌, ◌<◌, ◌≤◌, true}
use Rattle.std.proofs.Common.{List}
use Rattle.std.proofs.Common.{[], ◌∷◌, ◌++◌, length, Ok, Some, String, string_bytes}
use Rattle.std.proofs.Common.{string_cmp}
use Rattle.std.proofs.Common.{Ordering, Less, Greater, refl, sym, ap, ◌∙◌, subst, arith}
use Rattle.std.proofs.Common.{append_assoc, append-nil}
use Rattle.std.specs.declared.alloc.Global.{Global}
use Rattle.std.specs.Str.{is_utf8, IsUtf8}
use Rattle.std.specs.Ordering.{ordering_reverse, match_ordering}
use Rattle.std.specs.Cmp.{IsTotalOrder}
use Rattle.std.specs.List.{AllByRecursion}
use Rattle.std.specs.List.Sorted.{IsStrictlySortedBy}
use Rattle.std.specs.Map.{keys_of}
use Rattle.std.specs.BTreeMap.{insert_entry}
use Rattle.std.specs.String.{string_cmp_total}
use Rattle.std.proofs.lemmas.Str.{is_utf8-from_IsUtf8}
use Rattle.std.proofs.lemmas.List.{length-append, length-map, map-append, take_at, drop_at}
use Rattle.std.proofs.lemmas.Bool.{le-leb}
use Rattle.arrow_values.specs.Tree.{Text, Metadata}
use Rattle.arrow_values.specs.View.{texts_of}
use Rattle.arrow_values.specs.Texts.{put_text}
use Rattle.record_wire.specs.Record.{bytes_at, utf8_at}
use Rattle.record_wire.specs.Write.{word, text_of}
use Rattle.record_wire.proofs.Written.{number_is}
use Rattle.record_columns.specs.Texts.{put_entry, put_entries, texts_at, texts_in}
use Rattle.record_columns.proofs.Entries.{inserted}
use Rattle.record_writer.specs.Texts.{text_bytes, entries_bytes, metadata_bytes}
use Rattle.record_writer.specs.Writes.{RefusesRoom}
use Rattle.record_writer.specs.declared.error.Refusal.{Refusal}
use Rattle.record_writer.specs.declared.error.Refusal.TheVariants as refusals

pub utf8_is : (bs : List ℕ) → IsUtf8 bs → is_utf8 bs ≡ true
utf8_is bs h = is_utf8-from_IsUtf8 bs h

-- ---- an entry

pub record IsEntry (e : Text × Text) : Type 0 where
  pub key : is_utf8 e.0 ≡ true
  pub text : is_utf8 e.1 ≡ true
  pub short_key : length e.0 < 2 ^ 32
  pub short_text : length e.1 < 2 ^ 32

text_is : (text rest : List ℕ) → is_utf8 text ≡ true → length text < 2 ^ 32
    → utf8_at (text_bytes text ++ rest) ≡ Ok (text, rest)
unfolding utf8_at bytes_at
text_is text rest valid short =
    let all : text_bytes text ++ rest ≡ word (length text) ++ (text ++ rest) =
    append_assoc (word (length text)) text rest in
    let le : length text ≤ length (text ++ rest) =
    let l = length-append text rest in omega (arith, l) in
    rw (
      all,
      number_is (length text) (text ++ rest) short,
      le-leb (length text) (length (text ++ rest)) le,
      take_at text rest (length text) refl,
      drop_at text rest (length text) refl,
      valid,
    ) refl

entry_is : (m : Metadata) (e : Text × Text) (rest : List ℕ) → IsEntry e
    → put_entry m ((text_bytes e.0 ++ text_bytes e.1) ++ rest) ≡ Ok (put_text e.0 e.1 m, rest)
unfolding put_entry
entry_is m e rest ok =
    let x = text_bytes e.0 in let y = text_bytes e.1 in
    let all : (x ++ y) ++ rest ≡ x ++ (y ++ rest) = append_assoc x y rest in
    rw (
      all,
      text_is e.0 (text_bytes e.1 ++ rest) ok.key ok.short_key,
      text_is e.1 rest ok.text ok.short_text,
    ) refl

-- ---- entries in the order of their keys are put one behind the other

module _ {K : Type 0} {cmp : K → K → Ordering} (total : IsTotalOrder cmp) where
  below_middle : (first : K) (ks : List K) (k : K) (more : List K)
      → AllByRecursion (λ y. cmp first y ≡ Less) (ks ++ k ∷ more) → cmp first k ≡ Less
  below_middle first [] k more h = h.0
  below_middle first (x ∷ ks) k more h = below_middle first ks k more h.1

  insert_last : {X : Type 0} (es : List (K × X)) (k : K) (v : X) (more : List K)
      → IsStrictlySortedBy cmp (keys_of es ++ k ∷ more)
      → insert_entry cmp es k v ≡ es ++ ((k, v) ∷ [])
  unfolding IsStrictlySortedBy
  insert_last [] k v more h = refl
  insert_last (e ∷ es) k v more h =
      let above : cmp k e.0 ≡ Greater =
      total.antisymm k e.0 ∙ ap ordering_reverse (below_middle e.0 (keys_of es) k more h.0) in
      ap (λ r. match_ordering r ((k, v) ∷ e ∷ es) ((e.0, v) ∷ es)
      (e ∷ insert_entry cmp es k v)) above
      ∙ ap (λ l. e ∷ l) (insert_last es k v more h.1)

abbrev pub Texts : Type 0
Texts = List (String Global × String Global)

put_last : (done : Texts) (k t : String Global) (left : Texts)
    → IsStrictlySortedBy string_cmp (keys_of (done ++ (k, t) ∷ left))
    → put_text (string_bytes k) (string_bytes t) (texts_of done) ≡ texts_of (done ++ (k, t) ∷ [])
put_last done k t left h =
    let sorted = subst (IsStrictlySortedBy string_cmp)
    (map-append (λ (e : String Global × String Global). e.0) done ((k, t) ∷ left)) h in
    sym (inserted done k t)
    ∙ ap texts_of (insert_last string_cmp_total done k t (keys_of left) sorted)

entries_are : (done left : Texts) → IsStrictlySortedBy string_cmp (keys_of (done ++ left))
    → AllByRecursion IsEntry (texts_of left)
    → put_entries (length left) (texts_of done) (entries_bytes (texts_of left))
    ≡ Ok (texts_of (done ++ left))
unfolding put_entries
entries_are done [] h each = ap (λ (l : Texts). Ok (texts_of l)) (sym (append-nil done))
entries_are done (e ∷ left) h each =
    let all : done ++ (e ∷ left) ≡ (done ++ e ∷ []) ++ left =
    sym (append_assoc done (e ∷ []) left) in
    let sorted = subst (λ (l : Texts). IsStrictlySortedBy string_cmp (keys_of l)) all h in
    let next = entries_are (done ++ e ∷ []) left sorted each.1 in
    let one = entry_is (texts_of done) (string_bytes e.0, string_bytes e.1)
    (entries_bytes (texts_of left)) each.0 in
    rw (one, put_last done e.0 e.1 left h) (next ∙ ap (λ (l : Texts). Ok (texts_of l)) (sym all))

-- ---- all of them

texts_are : (es : Texts) → IsStrictlySortedBy string_cmp (keys_of es)
    → AllByRecursion IsEntry (texts_of es) → length es < 2 ^ 32
    → texts_at (word (length es) ++ entries_bytes (texts_of es)) ≡ Ok (texts_of es)
unfolding texts_at
texts_are es sorted each few =
    rw (number_is (length es) (entries_bytes (texts_of es)) few) (entries_are [] es sorted each)

count_is : (es : Texts) → length (texts_of es) ≡ length es
count_is es = simp length-map

some_are : (m : Metadata) → 0 < length m
    → metadata_bytes m ≡ Some (word (length m) ++ entries_bytes m)
some_are [] some = absurd (omega arith)
some_are (e ∷ m) some = refl

-- the entries so far, before those that are left
pub record Written (bytes : List ℕ) (left all : Metadata) : Type 0 where
  pub done : Metadata
  pub parts : done ++ left ≡ all
  pub each : AllByRecursion IsEntry done
  pub is : bytes ≡ word (length all) ++ entries_bytes done

pub written_begins : (bytes : List ℕ) (es all : Texts) (n : ℕ) → all ≡ es → n ≡ length es
    → bytes ≡ word n → Written bytes (texts_of all) (texts_of all)
written_begins bytes es all n same many is =
    let count : n ≡ length (texts_of all) = many ∙ ap length (sym same) ∙ sym (count_is all) in
    record {
      done = [];
      parts = refl;
      each = tt;
      is = is ∙ ap word count ∙ sym (append-nil (word (length (texts_of all))));
    }

each_more : (m : Metadata) (e : Text × Text) → AllByRecursion IsEntry m → IsEntry e
    → AllByRecursion IsEntry (m ++ e ∷ [])
each_more [] e all one = (one, tt)
each_more (x ∷ m) e all one = (all.0, each_more m e all.1 one)

entries_more : (m : Metadata) (e : Text × Text)
    → entries_bytes (m ++ e ∷ []) ≡ entries_bytes m ++ (text_bytes e.0 ++ text_bytes e.1)
entries_more [] e = append-nil (text_bytes e.0 ++ text_bytes e.1)
entries_more (x ∷ m) e =
    let b = text_bytes x.0 ++ text_bytes x.1 in
    ap (λ l. b ++ l) (entries_more m e)
    ∙ sym (append_assoc b (entries_bytes m) (text_bytes e.0 ++ text_bytes e.1))

pub written_more : (a b bytes : List ℕ) (k t : Text) (left all : Metadata)
    → Written a ((k, t) ∷ left) all → b ≡ a ++ text_bytes k → bytes ≡ b ++ text_bytes t
    → IsEntry (k, t) → Written bytes left all
written_more a b bytes k t left all w first second one =
    let x = text_bytes k in let y = text_bytes t in let n = word (length all) in
    record {
      done = w.done ++ (k, t) ∷ [];
      parts = append_assoc w.done ((k, t) ∷ []) left ∙ w.parts;
      each = each_more w.done (k, t) w.each one;
      is = second ∙ ap (λ (l : List ℕ). l ++ y) first ∙ append_assoc a x y
          ∙ ap (λ (l : List ℕ). l ++ (x ++ y)) w.is
          ∙ append_assoc n (entries_bytes w.done) (x ++ y)
          ∙ ap (λ (l : List ℕ). n ++ l) (sym (entries_more w.done (k, t)));
    }

pub all_written : (bytes : List ℕ) (es : Texts) → Written bytes [] (texts_of es)
    → IsStrictlySortedBy string_cmp (keys_of es) → 0 < length es → length es < 2 ^ 32
    → (metadata_bytes (texts_of es) ≡ Some bytes)
    × (texts_in (metadata_bytes (texts_of es)) ≡ Ok (texts_of es))
all_written bytes es w sorted some few =
    let all : w.done ≡ texts_of es = sym (append-nil w.done) ∙ w.parts in
    let n = count_is es in
    let each = subst (λ (m : Metadata). AllByRecursion IsEntry m) all w.each in
    let is : bytes ≡ word (length es) ++ entries_bytes (texts_of es) =
    w.is ∙ rw (all, n) refl in
    let made : metadata_bytes (texts_of es) ≡ Some bytes =
    some_are (texts_of es) (omega (arith, n, some)) ∙ rw (n, is) refl in
    (made, rw (made, is) (texts_are es sorted each few))

-- ---- what is refused

entries_room : (m left : Metadata) (e : Text × Text)
    → length e.0 + length e.1 ≤ length (entries_bytes (m ++ e ∷ left))
unfolding word
entries_room [] left e =
    let a = length-append (text_bytes e.0 ++ text_bytes e.1) (entries_bytes left) in
    let b = length-append (text_bytes e.0) (text_bytes e.1) in
    omega (arith, a, b)
entries_room (x ∷ m) left e =
    let a = length-append (text_bytes x.0 ++ text_bytes x.1) (entries_bytes (m ++ e ∷ left)) in
    let rest = entries_room m left e in
    omega (arith, a, rest)

many_room : (m : Metadata) → 8 * length m ≤ length (entries_bytes m)
unfolding word
many_room [] = omega arith
many_room (e ∷ m) =
    let a = length-append (text_bytes e.0 ++ text_bytes e.1) (entries_bytes m) in
    let b = length-append (text_bytes e.0) (text_bytes e.1) in
    let rest = many_room m in
    omega (arith, a, b, rest)

abbrev pub room : Metadata → ℕ
room m = length (text_of (metadata_bytes m))

room_is : (m : Metadata) → 0 < length m → length (entries_bytes m) ≤ room m
unfolding word
room_is [] some = omega arith
room_is (e ∷ m) some =
    let a = length-append (word (length (e ∷ m))) (entries_bytes (e ∷ m)) in omega (arith, a)

pub room_more : (e : Refusal) (n m : ℕ) → n ≤ m → RefusesRoom e n → RefusesRoom e m
room_more refusals.TooLarge n m le r = omega arith
room_more refusals.OutOfMemory n m le r = tt
room_more _ n m le r = absurd r

pub text_refused : (r : Refusal) (bytes : List ℕ) (e : Text × Text) (left all : Metadata) (n : ℕ)
    → Written bytes (e ∷ left) all → n ≤ length e.0 + length e.1 → RefusesRoom r n
    → RefusesRoom r (room all)
text_refused r bytes e left all n w le refused =
    let a = entries_room w.done left e in
    let some : 0 < length all =
    subst (λ (l : Metadata). 0 < length l) w.parts
    (let k = length-append w.done (e ∷ left) in omega (arith, k)) in
    let b = room_is all some in
    let c : length (entries_bytes (w.done ++ e ∷ left)) ≡ length (entries_bytes all) =
    ap (λ (l : Metadata). length (entries_bytes l)) w.parts in
    room_more r n (room all) (omega (arith, a, b, c, le)) refused

pub count_refused : (es : Texts) → 2 ^ 32 ≤ length es → 2 ^ 28 < room (texts_of es)
count_refused es many =
    let n = count_is es in
    let a = many_room (texts_of es) in
    let b = room_is (texts_of es) (omega (arith, n, many)) in
    omega (arith, n, a, b, many)
