-- Texts by key: after a change, and as the entries of a map.
use Rattle.std.proofs.Common.{◌≡◌, ⊎_elim, List, [], ◌∷◌, Bool, false, not, cond, Option, Some, None, option_map, String, Global, Ordering, Less, Equal, Greater, string_bytes, nat_cmp, refl, sym, ap, ◌∙◌}
use Rattle.std.specs.Map.{lookup, remove_entry, keys_of}
use Rattle.std.specs.BTreeMap.{is_at, insert_entry}
use Rattle.std.specs.String.{string_cmp}
use Rattle.std.specs.Str.{bytes_eq}
use Rattle.std.specs.List.{AllByRecursion}
use Rattle.std.specs.List.Sorted.{IsStrictlySortedBy}
use Rattle.std.specs.Ordering.{is_eq, match_ordering}
use Rattle.std.specs.Cmp.Lexicographic.{slice_cmp}
use Rattle.std.proofs.lemmas.Map.Entries.{lookup-filter-keys}
use Rattle.std.proofs.lemmas.Bool.{cases_Bool, false_from_ne_true}
use Rattle.std.proofs.lemmas.Cmp.{nat_list_cmp_total, nat_list_eq_equiv}
use Rattle.std.proofs.lemmas.Option.{same_Some}
use Rattle.std.proofs.lemmas.Map.Text.{is_eq-slice_cmp}
use Rattle.std.proofs.lemmas.Slice.Eq.{bytes_eq-Decides}
use Rattle.arrow_values.specs.Tree.{Text, Metadata}
use Rattle.arrow_values.specs.View.{texts_of}
use Rattle.arrow_values.specs.Texts.{name_key, metadata_key, text_at, put_text, remove_text, set_extension, SetsExtension}

abbrev Entry : Type 0
Entry = String Global × String Global

-- a text is put at a key
put_step : (r : Ordering) (k t q : Text) (e : Text × Text) (m later : Metadata) → is_eq r ≡ bytes_eq k e.0 → text_at q later ≡ cond (bytes_eq k q) (Some t) (text_at q m)
    → text_at q (match_ordering r ((k, t) ∷ e ∷ m) ((e.0, t) ∷ m) (e ∷ later)) ≡ cond (bytes_eq k q) (Some t) (text_at q (e ∷ m))
put_step Less k t q e m later is h = rw (nat_list_eq_equiv.symm q k)
put_step Equal k t q e m later is h =
    let same : k ≡ e.0 = (bytes_eq-Decides k e.0).0 (sym is) in
    rw (← same, nat_list_eq_equiv.symm q k) (⊎_elim (λ b. rw b) (λ b. rw b) (cases_Bool (bytes_eq k q)))
put_step Greater k t q e m later is h = ⊎_elim (λ b. rw b (rw ((bytes_eq-Decides q e.0).0 b, ← is) refl)) (λ b. rw b h) (cases_Bool (bytes_eq q e.0))

text_at-put : (k t q : Text) (m : Metadata) → text_at q (put_text k t m) ≡ cond (bytes_eq k q) (Some t) (text_at q m)
text_at-put k t q [] = rw (nat_list_eq_equiv.symm q k)
text_at-put k t q (e ∷ m) = put_step (slice_cmp nat_cmp k e.0) k t q e m (put_text k t m) (is_eq-slice_cmp k e.0) (text_at-put k t q m)

-- a text is removed
text_at-remove : (k q : Text) (m : Metadata) → text_at q (remove_text k m) ≡ cond (bytes_eq k q) None (text_at q m)
text_at-remove k q m = lookup-filter-keys (bytes_eq q) (λ x. not (bytes_eq k x)) (not (bytes_eq k q)) (λ x e. ap (λ y. not (bytes_eq k y)) (sym ((bytes_eq-Decides q x).0 e))) m
    ∙ ⊎_elim (λ b. rw b) (λ b. rw b) (cases_Bool (bytes_eq k q))

pub sets_extension : (name : Text) (text : Option Text) (m n : Metadata) → n ≡ set_extension name text m → SetsExtension name text m n
sets_extension name None m n is = λ q. rw (is, text_at-remove metadata_key q (put_text name_key name m), text_at-put name_key name q m)
sets_extension name (Some text) m n is = λ q. rw (is, text_at-put metadata_key text q (put_text name_key name m), text_at-put name_key name q m)

-- the entries of a map: what an insert leaves
pub texts_of_insert : (es : List Entry) (k v : String Global) → texts_of (insert_entry string_cmp es k v) ≡ put_text (string_bytes k) (string_bytes v) (texts_of es)
texts_of_insert [] k v = refl
texts_of_insert (e ∷ es) k v = moved (string_cmp k e.0) _ _ _ ∙ rw (texts_of_insert es k v)
  where
    moved : (r : Ordering) (a b c : List Entry) → texts_of (match_ordering r a b c) ≡ match_ordering r (texts_of a) (texts_of b) (texts_of c)
    moved Less a b c = refl
    moved Equal a b c = refl
    moved Greater a b c = refl

-- and a removal, where each key stands once
abbrev at_text : Text → String Global → Bool
at_text q = is_at (λ k. slice_cmp nat_cmp q (string_bytes k))

none_above : (first : String Global) (es : List Entry) → AllByRecursion (λ y. string_cmp first y ≡ Less) (keys_of es) → remove_text (string_bytes first) (texts_of es) ≡ texts_of es
none_above first [] h = refl
none_above first (e ∷ es) h = rw (← is_eq-slice_cmp (string_bytes first) (string_bytes e.0), h.0, none_above first es h.1)

pub texts_of-remove : (q : Text) (es : List Entry) → IsStrictlySortedBy string_cmp (keys_of es) → texts_of (remove_entry (at_text q) es) ≡ remove_text q (texts_of es)
unfolding IsStrictlySortedBy
texts_of-remove q [] h = refl
texts_of-remove q (e ∷ es) h =
    let first : q ≡ string_bytes e.0 → texts_of es ≡ remove_text q (texts_of es) = λ same. rw same (sym (none_above e.0 es h.0)) in
    let later = ap (λ m. (string_bytes e.0, string_bytes e.1) ∷ m) (texts_of-remove q es h.1) in
    rw (is_eq-slice_cmp q (string_bytes e.0))
    (⊎_elim (λ b. rw b (first ((bytes_eq-Decides q (string_bytes e.0)).0 b))) (λ b. rw b later) (cases_Bool (bytes_eq q (string_bytes e.0))))

-- ---- texts that are there already: putting them changes nothing
-- a key below all is at none
at_none : (k : Text) (x : String Global) (es : List Entry) → slice_cmp nat_cmp k (string_bytes x) ≡ Less → AllByRecursion (λ y. string_cmp x y ≡ Less) (keys_of es) → text_at k (texts_of es) ≡ None
at_none k x [] less h = refl
at_none k x (e ∷ es) less h = rw (← is_eq-slice_cmp k (string_bytes e.0), nat_list_cmp_total.trans k (string_bytes x) (string_bytes e.0) less h.0) (at_none k x es less h.1)

-- a text that stands at a key is put there with no change
same_step : (r : Ordering) (k t : Text) (e : Text × Text) (m later : Metadata) → (r ≡ Less → text_at k m ≡ None) → cond (is_eq r) (Some e.1) (text_at k m) ≡ Some t → (text_at k m ≡ Some t → later ≡ m)
    → match_ordering r ((k, t) ∷ e ∷ m) ((e.0, t) ∷ m) (e ∷ later) ≡ e ∷ m
same_step Less k t e m later below here rest = let none = below refl in absurd cc
same_step Equal k t e m later below here rest = ap (λ u. (e.0, u) ∷ m) (sym (same_Some e.1 t here))
same_step Greater k t e m later below here rest = ap (λ l. e ∷ l) (rest here)

same_put : (k t : Text) (es : List Entry) → IsStrictlySortedBy string_cmp (keys_of es) → text_at k (texts_of es) ≡ Some t → put_text k t (texts_of es) ≡ texts_of es
unfolding IsStrictlySortedBy
same_put k t [] a here = absurd cc
same_put k t (e ∷ es) a here =
    same_step (slice_cmp nat_cmp k (string_bytes e.0)) k t (string_bytes e.0, string_bytes e.1) (texts_of es) (put_text k t (texts_of es)) (λ less. at_none k e.0 es less a.0)
    (rw (← is_eq-slice_cmp k (string_bytes e.0)) at here) (same_put k t es a.1)

-- and where none stands there is none to remove
absent_removed : (k : Text) (m : Metadata) → text_at k m ≡ None → remove_text k m ≡ m
absent_removed k [] here = refl
absent_removed k (e ∷ m) here =
    let other : bytes_eq k e.0 ≡ false = false_from_ne_true _ (λ same. let some = rw same at here in absurd cc) in
    rw other (ap (λ l. e ∷ l) (absent_removed k m (rw other at here)))

-- the texts of a map that has a name, and a text or nothing, at the two keys
pub kept : (name : Text) (text : Option Text) (es : List Entry) → IsStrictlySortedBy string_cmp (keys_of es) → text_at name_key (texts_of es) ≡ Some name → text_at metadata_key (texts_of es) ≡ text
    → set_extension name text (texts_of es) ≡ texts_of es
kept name None es sorted named here = rw (same_put name_key name es sorted named) (absent_removed metadata_key (texts_of es) here)
kept name (Some t) es sorted named here = rw (same_put name_key name es sorted named) (same_put metadata_key t es sorted here)

-- ---- the text at a key, of the map and of what it denotes
pub text_at-lookup : (key : Text) (es : List Entry) → option_map (λ t. string_bytes t) (lookup (at_text key) es) ≡ text_at key (texts_of es)
text_at-lookup key [] = refl
text_at-lookup key (e ∷ es) =
    rw (is_eq-slice_cmp key (string_bytes e.0)) (⊎_elim (λ b. rw b) (λ b. rw b (text_at-lookup key es)) (cases_Bool (bytes_eq key (string_bytes e.0))))
