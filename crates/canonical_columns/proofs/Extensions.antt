-- The texts of a field after its extension name and its extension metadata are set: what stands at these keys, and that setting them once more changes nothing.
use Rattle.std.proofs.Common.{◌≡◌, ⊎_elim, [], ◌∷◌, Bool, true, false, not, cond, Option, None, Some, Ordering, Less, Equal, Greater, nat_cmp, refl, sym, ap, ◌∙◌}
use Rattle.std.specs.Cmp.Lexicographic.{slice_cmp}
use Rattle.std.specs.Ordering.{is_eq, match_ordering, ordering_reverse}
use Rattle.std.specs.Str.{bytes_eq}
use Rattle.std.proofs.lemmas.Bool.{cases_Bool}
use Rattle.std.proofs.lemmas.Cmp.{nat_list_cmp_total, nat_list_eq_equiv}
use Rattle.std.proofs.lemmas.Map.Entries.{lookup-filter-keys}
use Rattle.std.proofs.lemmas.Map.Text.{is_eq-slice_cmp}
use Rattle.std.proofs.lemmas.Slice.Eq.{bytes_eq-Decides}
use Rattle.arrow_values.specs.Tree.{Text, Metadata}
use Rattle.arrow_values.specs.Texts.{name_key, metadata_key, text_at, put_text, remove_text, set_extension}

-- ---- what stands at the keys

put_step : (r : Ordering) (k t q : Text) (e : Text × Text) (m later : Metadata) → is_eq r ≡ bytes_eq k e.0 → text_at q later ≡ cond (bytes_eq k q) (Some t) (text_at q m)
    → text_at q (match_ordering r ((k, t) ∷ e ∷ m) ((e.0, t) ∷ m) (e ∷ later)) ≡ cond (bytes_eq k q) (Some t) (text_at q (e ∷ m))
put_step Less k t q e m later is h = rw (nat_list_eq_equiv.symm q k)
put_step Equal k t q e m later is h =
    let same : k ≡ e.0 = (bytes_eq-Decides k e.0).0 (sym is) in
    rw (← same, nat_list_eq_equiv.symm q k) (⊎_elim (λ b. rw b) (λ b. rw b) (cases_Bool (bytes_eq k q)))
put_step Greater k t q e m later is h = ⊎_elim (λ b. rw b (rw ((bytes_eq-Decides q e.0).0 b, ← is) refl)) (λ b. rw b h) (cases_Bool (bytes_eq q e.0))

text_at-put : (k t q : Text) (m : Metadata) → text_at q (put_text k t m) ≡ cond (bytes_eq k q) (Some t) (text_at q m)
text_at-put k t q [] = rw (nat_list_eq_equiv.symm q k)
text_at-put k t q (e ∷ m) = put_step (slice_cmp nat_cmp k e.0) k t q e m (put_text k t m) (is_eq-slice_cmp k e.0) (text_at-put k t q m)

text_at-remove : (k q : Text) (m : Metadata) → text_at q (remove_text k m) ≡ cond (bytes_eq k q) None (text_at q m)
text_at-remove k q m = lookup-filter-keys (bytes_eq q) (λ x. not (bytes_eq k x)) (not (bytes_eq k q)) (λ x e. ap (λ y. not (bytes_eq k y)) (sym ((bytes_eq-Decides q x).0 e))) m
    ∙ ⊎_elim (λ b. rw b) (λ b. rw b) (cases_Bool (bytes_eq k q))

pub name_set : (name : Text) (text : Option Text) (m : Metadata) → text_at name_key (set_extension name text m) ≡ Some name
name_set name None m = text_at-remove metadata_key name_key (put_text name_key name m) ∙ text_at-put name_key name name_key m
name_set name (Some t) m = text_at-put metadata_key t name_key (put_text name_key name m) ∙ text_at-put name_key name name_key m

pub metadata_set : (name : Text) (text : Option Text) (m : Metadata) → text_at metadata_key (set_extension name text m) ≡ text
metadata_set name None m = text_at-remove metadata_key metadata_key (put_text name_key name m)
metadata_set name (Some t) m = text_at-put metadata_key t metadata_key (put_text name_key name m)

-- what stands at another key is the same, whatever the extension metadata are
other_set_as : (name key : Text) (text : Option Text) (m : Metadata) → bytes_eq metadata_key key ≡ false → text_at key (set_extension name text m) ≡ text_at key (put_text name_key name m)
other_set_as name key None m other = text_at-remove metadata_key key (put_text name_key name m) ∙ ap (λ b. cond b None (text_at key (put_text name_key name m))) other
other_set_as name key (Some t) m other = text_at-put metadata_key t key (put_text name_key name m) ∙ ap (λ b. cond b (Some t) (text_at key (put_text name_key name m))) other

pub other_set : (name key : Text) (text also : Option Text) (m : Metadata) → bytes_eq metadata_key key ≡ false → text_at key (set_extension name text m) ≡ text_at key (set_extension name also m)
other_set name key text also m other = other_set_as name key text m other ∙ sym (other_set_as name key also m other)

-- ---- once more

is_Equal : (r : Ordering) → is_eq r ≡ true → r ≡ Equal
is_Equal Less h = absurd cc
is_Equal Equal h = refl
is_Equal Greater h = absurd cc

compared_itself : (k : Text) → slice_cmp nat_cmp k k ≡ Equal
compared_itself k = is_Equal _ (is_eq-slice_cmp k k ∙ (bytes_eq-Decides k k).1 refl)

-- a text that was put is put again
put_again_step : (r : Ordering) (k t : Text) (e : Text × Text) (m later : Metadata) → slice_cmp nat_cmp k e.0 ≡ r → put_text k t later ≡ later
    → put_text k t (match_ordering r ((k, t) ∷ e ∷ m) ((e.0, t) ∷ m) (e ∷ later)) ≡ match_ordering r ((k, t) ∷ e ∷ m) ((e.0, t) ∷ m) (e ∷ later)
put_again_step Less k t e m later is h = rw (compared_itself k) refl
put_again_step Equal k t e m later is h = rw is refl
put_again_step Greater k t e m later is h = rw is (ap (λ l. e ∷ l) h)

put_again : (k t : Text) (m : Metadata) → put_text k t (put_text k t m) ≡ put_text k t m
put_again k t [] = rw (compared_itself k) refl
put_again k t (e ∷ m) = put_again_step (slice_cmp nat_cmp k e.0) k t e m (put_text k t m) refl (put_again k t m)

remove_again_step : (b : Bool) (k : Text) (e : Text × Text) (m : Metadata) → bytes_eq k e.0 ≡ b → remove_text k (remove_text k m) ≡ remove_text k m
    → remove_text k (cond (not b) (e ∷ remove_text k m) (remove_text k m)) ≡ cond (not b) (e ∷ remove_text k m) (remove_text k m)
remove_again_step true k e m is h = h
remove_again_step false k e m is h = rw is (ap (λ l. e ∷ l) h)

remove_again : (k : Text) (m : Metadata) → remove_text k (remove_text k m) ≡ remove_text k m
remove_again k [] = refl
remove_again k (e ∷ m) = remove_again_step (bytes_eq k e.0) k e m refl (remove_again k m)

-- two keys, the one before the other
module _ (a b t n : Text) (less : slice_cmp nat_cmp a b ≡ Less) where
  greater : slice_cmp nat_cmp b a ≡ Greater
  greater = nat_list_cmp_total.antisymm b a ∙ ap ordering_reverse less

  above : (x : Text) → slice_cmp nat_cmp x b ≡ Less → slice_cmp nat_cmp b x ≡ Greater
  above x h = nat_list_cmp_total.antisymm b x ∙ ap ordering_reverse h

  -- what the first key does not come before, the second comes behind
  beside : (x : Text) → slice_cmp nat_cmp a x ≡ Equal → slice_cmp nat_cmp b x ≡ Greater
  beside x h = above x (sym (nat_list_cmp_total.congr a x b h) ∙ less)

  behind : (x : Text) → slice_cmp nat_cmp a x ≡ Greater → slice_cmp nat_cmp b x ≡ Greater
  behind x h = above x (nat_list_cmp_total.trans x a b (nat_list_cmp_total.antisymm x a ∙ ap ordering_reverse h) less)

  first_step : (q : Ordering) (e : Text × Text) (m later : Metadata) → slice_cmp nat_cmp a e.0 ≡ Less
      → put_text a t (match_ordering q ((b, n) ∷ e ∷ m) ((e.0, n) ∷ m) (e ∷ later)) ≡ (a, t) ∷ match_ordering q ((b, n) ∷ e ∷ m) ((e.0, n) ∷ m) (e ∷ later)
  first_step Less e m later is = rw less refl
  first_step Equal e m later is = rw is refl
  first_step Greater e m later is = rw is refl

  commute_step : (r : Ordering) (e : Text × Text) (m : Metadata) → slice_cmp nat_cmp a e.0 ≡ r → put_text b n (put_text a t m) ≡ put_text a t (put_text b n m)
      → put_text b n (match_ordering r ((a, t) ∷ e ∷ m) ((e.0, t) ∷ m) (e ∷ put_text a t m)) ≡ put_text a t (put_text b n (e ∷ m))
  commute_step Less e m is h = rw greater (sym (first_step (slice_cmp nat_cmp b e.0) e m (put_text b n m) is))
  commute_step Equal e m is h = rw (beside e.0 is, is) refl
  commute_step Greater e m is h = rw (behind e.0 is, is) (ap (λ l. e ∷ l) h)

  -- they are put in either order
  commute : (m : Metadata) → put_text b n (put_text a t m) ≡ put_text a t (put_text b n m)
  commute [] = rw (greater, less) refl
  commute (e ∷ m) = commute_step (slice_cmp nat_cmp a e.0) e m refl (commute m)

  kept_step : (q : Ordering) (e : Text × Text) (m later : Metadata) → bytes_eq a e.0 ≡ false → bytes_eq a b ≡ false
      → remove_text a (match_ordering q ((b, n) ∷ e ∷ m) ((e.0, n) ∷ m) (e ∷ later)) ≡ match_ordering q ((b, n) ∷ e ∷ remove_text a m) ((e.0, n) ∷ remove_text a m) (e ∷ remove_text a later)
  kept_step Less e m later other apart = rw (apart, other) refl
  kept_step Equal e m later other apart = rw other refl
  kept_step Greater e m later other apart = rw other refl

  removed_step : (s : Bool) (e : Text × Text) (m : Metadata) → bytes_eq a e.0 ≡ s → bytes_eq a b ≡ false → remove_text a (put_text b n m) ≡ put_text b n (remove_text a m)
      → remove_text a (put_text b n (e ∷ m)) ≡ put_text b n (cond (not s) (e ∷ remove_text a m) (remove_text a m))
  removed_step true e m is apart h =
      let there = beside e.0 (is_Equal _ (is_eq-slice_cmp a e.0 ∙ is)) in
      rw (there, is) h
  removed_step false e m is apart h =
      kept_step (slice_cmp nat_cmp b e.0) e m (put_text b n m) is apart
      ∙ ap (λ l. match_ordering (slice_cmp nat_cmp b e.0) ((b, n) ∷ e ∷ remove_text a m) ((e.0, n) ∷ remove_text a m) (e ∷ l)) h

  -- the one is removed before or behind the other
  removed : bytes_eq a b ≡ false → (m : Metadata) → remove_text a (put_text b n m) ≡ put_text b n (remove_text a m)
  removed apart [] = rw apart refl
  removed apart (e ∷ m) = removed_step (bytes_eq a e.0) e m refl apart (removed apart m)

pub set_again : (name : Text) (text : Option Text) (m : Metadata) → set_extension name text (set_extension name text m) ≡ set_extension name text m
set_again name None m =
    let once = put_text name_key name m in
    ap (remove_text metadata_key) (sym (removed metadata_key name_key [] name refl refl once))
    ∙ remove_again metadata_key (put_text name_key name once)
    ∙ ap (remove_text metadata_key) (put_again name_key name m)
set_again name (Some t) m =
    let once = put_text name_key name m in
    ap (put_text metadata_key t) (commute metadata_key name_key t name refl once)
    ∙ put_again metadata_key t (put_text name_key name once)
    ∙ ap (put_text metadata_key t) (put_again name_key name m)
