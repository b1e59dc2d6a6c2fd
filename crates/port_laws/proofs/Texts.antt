-- Setting the two extension keys again changes nothing, in whatever order the texts stand.
use Rattle.std.proofs.Common.{◌≡◌, ◌∷◌, [], Bool, true, false, not, cond, Option, Some, None, Ordering, Less, Equal, Greater, nat_cmp, refl, sym, ap, ◌∙◌, arith}
use Rattle.std.specs.Ordering.{is_eq, match_ordering}
use Rattle.std.specs.Cmp.Lexicographic.{slice_cmp}
use Rattle.std.specs.Str.{bytes_eq}
use Rattle.std.proofs.lemmas.Cmp.{nat_list_cmp_total, tied_itself}
use Rattle.std.proofs.lemmas.Map.Text.{is_eq-slice_cmp}
use Rattle.std.proofs.lemmas.Slice.Eq.{bytes_eq-Decides}
use Rattle.arrow_values.specs.Tree.{Text, Metadata as Texts}
use Rattle.arrow_values.specs.Texts.{name_key, metadata_key, put_text, remove_text, set_extension}

put_twice : (k t : Text) (m : Texts) → put_text k t (put_text k t m) ≡ put_text k t m
put_twice k t [] = rw (tied_itself nat_list_cmp_total k) refl
put_twice k t (e ∷ m) = grind (arith, tied_itself nat_list_cmp_total k, put_twice k t m)

remove_twice : (q : Text) (m : Texts) → remove_text q (remove_text q m) ≡ remove_text q m
remove_twice q [] = refl
remove_twice q (e ∷ m) = grind (arith, remove_twice q m)

-- what ties with the name key is it, and so comes behind the metadata key
is_name : (k : Text) → slice_cmp nat_cmp name_key k ≡ Equal → name_key ≡ k
is_name k tied = (bytes_eq-Decides name_key k).0 (sym (is_eq-slice_cmp name_key k) ∙ ap is_eq tied)

name_behind : (k : Text) → slice_cmp nat_cmp name_key k ≡ Equal → slice_cmp nat_cmp metadata_key k ≡ Less
name_behind k tied = sym (ap (slice_cmp nat_cmp metadata_key) (is_name k tied))

name_differs : (k : Text) → slice_cmp nat_cmp name_key k ≡ Equal → bytes_eq metadata_key k ≡ false
name_differs k tied = sym (ap (bytes_eq metadata_key) (is_name k tied))

-- ---- the name is put again where it stands, before or behind a text at the metadata key

module _ (name : Text) where
  module _ (t : Text) where
    behind_step : (q : Ordering) (e : Text × Text) (later : Texts) → slice_cmp nat_cmp name_key e.0 ≡ Greater → put_text name_key name later ≡ later
        → put_text name_key name (put_text metadata_key t later) ≡ put_text metadata_key t later
        → put_text name_key name (match_ordering q ((metadata_key, t) ∷ e ∷ later) ((e.0, t) ∷ later) (e ∷ put_text metadata_key t later)) ≡ match_ordering q ((metadata_key, t) ∷ e ∷ later) ((e.0, t) ∷ later) (e ∷ put_text metadata_key t later)
    behind_step Less e later is twice again = rw is (ap (λ l. (metadata_key, t) ∷ e ∷ l) twice)
    behind_step Equal e later is twice again = rw is (ap (λ l. (e.0, t) ∷ l) twice)
    behind_step Greater e later is twice again = rw is (ap (λ l. e ∷ l) again)

    put_step : (r : Ordering) (e : Text × Text) (m later : Texts) → slice_cmp nat_cmp name_key e.0 ≡ r → put_text name_key name later ≡ later
        → put_text name_key name (put_text metadata_key t later) ≡ put_text metadata_key t later
        → put_text name_key name (put_text metadata_key t (match_ordering r ((name_key, name) ∷ e ∷ m) ((e.0, name) ∷ m) (e ∷ later))) ≡ put_text metadata_key t (match_ordering r ((name_key, name) ∷ e ∷ m) ((e.0, name) ∷ m) (e ∷ later))
    put_step Less e m later is twice again = refl
    put_step Equal e m later is twice again = rw (name_behind e.0 is, is) refl
    put_step Greater e m later is twice again = behind_step (slice_cmp nat_cmp metadata_key e.0) e later is twice again

    named_before : (m : Texts) → put_text name_key name (put_text metadata_key t (put_text name_key name m)) ≡ put_text metadata_key t (put_text name_key name m)
    named_before [] = refl
    named_before (e ∷ m) = put_step (slice_cmp nat_cmp name_key e.0) e m (put_text name_key name m) refl (put_twice name_key name m) (named_before m)

  kept_step : (b : Bool) (e : Text × Text) (later : Texts) → bytes_eq metadata_key e.0 ≡ b → slice_cmp nat_cmp name_key e.0 ≡ Greater
      → remove_text metadata_key (put_text name_key name (remove_text metadata_key later)) ≡ remove_text metadata_key later
      → remove_text metadata_key (put_text name_key name (cond (not b) (e ∷ remove_text metadata_key later) (remove_text metadata_key later))) ≡ cond (not b) (e ∷ remove_text metadata_key later) (remove_text metadata_key later)
  kept_step true e later same is again = again
  kept_step false e later same is again = rw (is, same) (ap (λ l. e ∷ l) again)

  remove_step : (r : Ordering) (e : Text × Text) (m later : Texts) → slice_cmp nat_cmp name_key e.0 ≡ r
      → remove_text metadata_key (put_text name_key name (remove_text metadata_key later)) ≡ remove_text metadata_key later
      → remove_text metadata_key (put_text name_key name (remove_text metadata_key (match_ordering r ((name_key, name) ∷ e ∷ m) ((e.0, name) ∷ m) (e ∷ later)))) ≡ remove_text metadata_key (match_ordering r ((name_key, name) ∷ e ∷ m) ((e.0, name) ∷ m) (e ∷ later))
  remove_step Less e m later is again = ap (λ l. (name_key, name) ∷ l) (remove_twice metadata_key (e ∷ m))
  remove_step Equal e m later is again = rw (name_differs e.0 is, is, name_differs e.0 is) (ap (λ l. (e.0, name) ∷ l) (remove_twice metadata_key m))
  remove_step Greater e m later is again = kept_step (bytes_eq metadata_key e.0) e later refl is again

  named_alone : (m : Texts) → remove_text metadata_key (put_text name_key name (remove_text metadata_key (put_text name_key name m))) ≡ remove_text metadata_key (put_text name_key name m)
  named_alone [] = refl
  named_alone (e ∷ m) = remove_step (slice_cmp nat_cmp name_key e.0) e m (put_text name_key name m) refl (named_alone m)

pub set_twice : (name : Text) (text : Option Text) (m : Texts) → set_extension name text (set_extension name text m) ≡ set_extension name text m
set_twice name None m = named_alone name m
set_twice name (Some t) m = ap (put_text metadata_key t) (named_before name t m) ∙ put_twice metadata_key t (put_text name_key name m)
