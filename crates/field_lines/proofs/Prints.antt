-- Steps of the loops that write, and from the tokens that were added one after another to those of a value.
use Rattle.std.proofs.Common.{◌≡◌, ℕ, ℤ, zero, suc, ◌<◌, ◌≤◌, List, [], ◌∷◌, ◌++◌, length, get_or, String, Global, Ordering, Less, Greater, string_bytes, string_cmp, subst, refl, sym, ap, ◌∙◌, arith, Bool, Some, codes, negsuc, pos, SFits, w64, option_map, option_and_then, ◌+◌, max, drop, Result, OnOk}
use Rattle.arrow_values.specs.declared.tree.DataType.{DataType}
use Rattle.arrow_columns.specs.Notation.{plain_word}
use Rattle.field_lines.proofs.Terms.{on_ok_weaker, ordering_reverse, match_ordering, AllByRecursion, keys_of, Token, key, number_token, string_token, boolean_token, begin_object, end_object, end_array, string, boolean, put, Data, number, object, Items, no_items, item, no_members, member, of_integer, of_json, outline, members_outline, Text, Metadata, texts_of, texts_value, one_key, two_keys, parts_value, PrintsMetadata, Adds, Prints, PrintsItems, then, added, prints_item, prints_end, tree, type_value}
use Rattle.std.proofs.lemmas.List.{at_drop_more, drop_all}
use Rattle.std.specs.Cmp.{IsTotalOrder}
use Rattle.std.specs.List.Sorted.{IsStrictlySortedBy}
use Rattle.std.specs.BTreeMap.{insert_entry}
use Rattle.std.specs.Fmt.{signed_decimal}
use Rattle.json.specs.Tree.{members_tokens}
use Rattle.json.specs.Written.{Written, Writes}
use Rattle.serde_json.proofs.Numbers.{number_of-decimal, number_of-negative}

-- ---- a loop over a list

module _ {A : Type 0} (one : A → ℕ) (all : List A → ℕ) (more : (x : A) (xs : List A) → all (x ∷ xs) ≡ max (suc (one x)) (all xs)) where
  pub falls : (xs : List A) {ys : List A} (i : ℕ) (x : A) → xs ≡ ys → i < length xs → x ≡ get_or xs i x → suc (one x) ≤ all ys
  falls [] i x e lt is = absurd (omega arith)
  falls (y ∷ ys) zero x e lt is = rw (← e) (let same : one x ≡ one y = ap one is in let most = more y ys in omega arith)
  falls (y ∷ ys) (suc i) x e lt is = rw (← e) (let low = falls ys i x refl (omega arith) is in let most = more y ys in omega arith)

-- what prints the items that are left prints all from the start
abbrev pub PrintsRest : {A : Type 0} → (List A → Items) → List A → ℕ → Written → Written → Type 0
PrintsRest value xs i start now = (end : Written) → PrintsItems (value (drop i xs)) now end → PrintsItems (value xs) start end

module _ {A : Type 0} (one : A → Data) (value : List A → Items) (xs : List A) (i : ℕ) {start now : Written}
    (law : (x : A) (xs : List A) → value (x ∷ xs) ≡ item (one x) (value xs)) (way : PrintsRest value xs i start now) where
  pub rest_go_on : (x : A) {new : Written} → i < length xs → x ≡ get_or xs i x → Prints (one x) now new → PrintsRest value xs (i + 1) start new
  rest_go_on x lt is this end rest = let here = at_drop_more value xs i x lt ∙ law (get_or xs i x) (drop (i + 1) xs) ∙ ap (λ y. item (one y) (value (drop (i + 1) xs))) (sym is) in
      way end (subst (λ ds. PrintsItems ds now end) (sym here) (prints_item this rest))

  pub rest_end : {all : _} {end : Written} → value [] ≡ no_items → length xs ≤ i → xs ≡ all → Adds (end_array ∷ []) now end → PrintsItems (value all) start end
  rest_end {end = end} none le is finish = let left = subst (λ ds. PrintsItems ds now end) (sym (ap value (drop_all i xs le) ∙ none)) (prints_end finish) in
      subst (λ l. PrintsItems (value l) start end) is (way end left)

-- the last token is added
pub finished : {E P : Type 0} (r : Result (Unit {0}) E) {old new : Written} {t : Token} → (Adds (t ∷ []) old new → P) → Writes r old new t → OnOk r P
finished r {old} {new} {t} f w = on_ok_weaker r f (added r old new t w)

-- texts are put in the order of their keys, so each goes last
abbrev pub Texts : Type 0
Texts = List (String Global × String Global)

module _ {K : Type 0} {cmp : K → K → Ordering} (total : IsTotalOrder cmp) where
  below_middle : (first : K) (ks : List K) (k : K) (more : List K) → AllByRecursion (λ y. cmp first y ≡ Less) (ks ++ k ∷ more) → cmp first k ≡ Less
  below_middle first [] k more h = h.0
  below_middle first (x ∷ ks) k more h = below_middle first ks k more h.1

  pub insert_last : {X : Type 0} (es : List (K × X)) (k : K) (v : X) (more : List K) → IsStrictlySortedBy cmp (keys_of es ++ k ∷ more) → insert_entry cmp es k v ≡ es ++ ((k, v) ∷ [])
  unfolding IsStrictlySortedBy
  insert_last [] k v more h = refl
  insert_last (e ∷ es) k v more h = let above : cmp k e.0 ≡ Greater = total.antisymm k e.0 ∙ ap ordering_reverse (below_middle e.0 (keys_of es) k more h.0) in
      ap (λ r. match_ordering r ((k, v) ∷ e ∷ es) ((e.0, v) ∷ es) (e ∷ insert_entry cmp es k v)) above ∙ ap (λ l. e ∷ l) (insert_last es k v more h.1)

pub ordered : {A B : Type 0} (f : A → B) (o : Ordering) (a b c : A) → f (match_ordering o a b c) ≡ match_ordering o (f a) (f b) (f c)
ordered f Less a b c = refl
ordered f _ a b c = refl

pub texts_put : (es : Texts) (k t : String Global) → texts_value (texts_of (insert_entry string_cmp es k t)) ≡ put (string_bytes k) (string (string_bytes t)) (texts_value (texts_of es))
texts_put [] k t = refl
texts_put (e ∷ es) k t = ordered (λ es. texts_value (texts_of es)) (string_cmp k e.0) _ _ _ ∙ rw (texts_put es k t)

-- the tokens of texts after the bracket that opens them
abbrev pub texts_tokens : Texts → List Token
texts_tokens texts = members_tokens (members_outline (texts_value (texts_of texts)))

-- ---- a value's parts

pub prints_text : {s : Text} {old new : Written} → Adds (string_token s ∷ []) old new → Prints (string s) old new
prints_text a = record { adds = a; reads_back = refl }

pub prints_integer : (z : ℤ) {old new : Written} → SFits w64 z → Adds (number_token (signed_decimal z) ∷ []) old new → Prints (number (of_integer z)) old new
prints_integer (pos n) fits a = record { adds = a; reads_back = ap (option_map number) (number_of-decimal n (grind arith)) }
prints_integer (negsuc n) fits a = record { adds = a; reads_back = ap (option_map number) (number_of-negative n (grind arith)) }

pub prints_one_key : (k : Text) {d : Data} {w0 w1 w2 w3 w4 : Written} → Adds (begin_object ∷ []) w0 w1 → Adds (key k ∷ []) w1 w2 → Prints d w2 w3 → Adds (end_object ∷ []) w3 w4 → Prints (one_key k d) w0 w4
prints_one_key k begin named value finish = record {
  adds = then begin (then named (then value.adds finish));
  reads_back = ap (λ o. option_map object (option_and_then (λ d. Some (member k d no_members)) o)) value.reads_back;
}

-- two keys in order
pub prints_two_keys : (k : Text) {d : Data} (l : Text) {e : Data} {w0 w1 w2 w3 w4 w5 w6 : Written} → ((x y : Data) → put l y (member k x no_members) ≡ member k x (member l y no_members))
    → Adds (begin_object ∷ []) w0 w1 → Adds (key k ∷ []) w1 w2 → Prints d w2 w3 → Adds (key l ∷ []) w3 w4 → Prints e w4 w5 → Adds (end_object ∷ []) w5 w6 → Prints (two_keys k d l e) w0 w6
prints_two_keys k {d} l {e} order begin first one second two finish = record {
  adds = then begin (then first (then one.adds (then second (then two.adds finish))));
  reads_back = rw (one.reads_back, two.reads_back) (ap (λ ms. Some (object ms)) (order d e));
}

parts_read_back : (n : Text) (d : Data) (b : Bool) (m : Metadata) → of_json (outline (object (texts_value m))) ≡ Some (object (texts_value m)) → of_json (outline d) ≡ Some d
    → of_json (outline (parts_value n d b m)) ≡ Some (parts_value n d b m)
parts_read_back n d b [] texts type = rw type
parts_read_back n d b (e ∷ es) texts type = rw (texts, type)

pub prints_parts : (n : Text) (d : Data) (b : Bool) (m : Metadata) {w0 w1 w2 w3 w4 w5 w6 w7 w8 w9 : Written} → Adds (begin_object ∷ []) w0 w1 → PrintsMetadata m w1 w2
    → Adds (key (codes "name") ∷ []) w2 w3 → Adds (string_token n ∷ []) w3 w4 → Adds (key (codes "nullable") ∷ []) w4 w5 → Adds (boolean_token b ∷ []) w5 w6
    → Adds (key (codes "type") ∷ []) w6 w7 → Prints d w7 w8 → Adds (end_object ∷ []) w8 w9 → Prints (parts_value n d b m) w0 w9
prints_parts n d b m {w9 = w9} begin metadata name_key name nullable_key nullable type_key type finish = record {
  adds = then begin (metadata.adds (member (codes "name") (string n) (member (codes "nullable") (boolean b) (member (codes "type") d no_members))) w9
      (then name_key (then name (then nullable_key (then nullable (then type_key (then type.adds finish)))))));
  reads_back = parts_read_back n d b m metadata.reads_back type.reads_back;
}

pub prints_metadata : (texts : Texts) {a b c : Written} → (texts ≡ [] → ⊥) → Adds (key (codes "metadata") ∷ []) a b → Prints (object (texts_value (texts_of texts))) b c → PrintsMetadata (texts_of texts) a c
prints_metadata [] some named value = absurd (some refl)
prints_metadata (e ∷ es) some named value = record { adds = λ ms end rest. then named (then value.adds rest); reads_back = value.reads_back }

-- a type of the other kinds is the text of its word
pub plain_value : (t : DataType) → ((f : _) → t ≡ DataType.List f → ⊥) → ((f : _) → t ≡ DataType.LargeList f → ⊥) → ((f n : _) → t ≡ DataType.FixedSizeList f n → ⊥)
    → ((fs : _) → t ≡ DataType.Struct fs → ⊥) → ((ms mode : _) → t ≡ DataType.Union ms mode → ⊥) → type_value (tree t) ≡ string (plain_word (tree t))
plain_value (DataType.List f) list large fixed struct union = absurd (list f refl)
plain_value (DataType.LargeList f) list large fixed struct union = absurd (large f refl)
plain_value (DataType.FixedSizeList f n) list large fixed struct union = absurd (fixed f n refl)
plain_value (DataType.Struct fs) list large fixed struct union = absurd (struct fs refl)
plain_value (DataType.Union ms mode) list large fixed struct union = absurd (union ms mode refl)
plain_value _ list large fixed struct union = refl
