-- The two extension keys in the metadata of a field: setting them keeps the order of the keys, and setting them again changes nothing.
use Rattle.std.proofs.Common.{◌≡◌, arith, ◌∷◌, [], List, ℕ, true, Option, Some, None, IfSome, refl, sym, ap, ◌∙◌, subst}
use Rattle.std.specs.Str.{chars}
use Rattle.std.proofs.lemmas.Cmp.{nat_list_cmp_total, tied_itself}
use Rattle.std.proofs.lemmas.Map.Text.{is_eq-slice_cmp}
use Rattle.field_lines.specs.Held.{comes_first}
use Rattle.geoarrow_fields.proofs.Terms.{is_utf8, Data, string, Members, put, Text, Texts, name_key, metadata_key, text_at, put_text, remove_text, set_extension, texts_value, is_held, members_are_held, held_parts}

abbrev pub HoldsTexts : Texts → Type 0
HoldsTexts m = members_are_held (texts_value m) ≡ true

abbrev pub PutIsHeld : Type 0
PutIsHeld = (k : List ℕ) (d : Data) (ms : Members) → is_utf8 k ≡ true → is_held d ≡ true → members_are_held ms ≡ true → members_are_held (put k d ms) ≡ true

-- ---- the order of the keys is kept

texts_put : (k t : Text) (m : Texts) → texts_value (put_text k t m) ≡ put k (string t) (texts_value m)
texts_put k t [] = refl
texts_put k t (e ∷ m) = grind (arith, texts_put k t m)

put_text_held : PutIsHeld → (k t : Text) (m : Texts) → is_utf8 k ≡ true → is_utf8 t ≡ true → HoldsTexts m → HoldsTexts (put_text k t m)
put_text_held put_is k t m key text h = subst (λ ms. members_are_held ms ≡ true) (sym (texts_put k t m)) (put_is k (string t) (texts_value m) key text h)

-- what comes before the first key comes before the next
next_first : (k : Text) (e : Text × Text) (m : Texts) → comes_first k (texts_value (e ∷ m)) ≡ true → comes_first e.0 (texts_value m) ≡ true → comes_first k (texts_value m) ≡ true
next_first k e [] here next = refl
next_first k e (d ∷ m) here next = grind (arith, nat_list_cmp_total.trans k e.0 d.0)

first_of_rest : (k q : Text) (m : Texts) → HoldsTexts m → comes_first k (texts_value m) ≡ true → comes_first k (texts_value (remove_text q m)) ≡ true
first_of_rest k q [] h first = refl
first_of_rest k q (e ∷ m) h first =
    let p = held_parts e.0 (string e.1) (texts_value m) h in
    grind (arith, first, first_of_rest k q m p.3 (next_first k e m first p.0))

remove_text_held : (q : Text) (m : Texts) → HoldsTexts m → HoldsTexts (remove_text q m)
remove_text_held q [] h = refl
remove_text_held q (e ∷ m) h =
    let p = held_parts e.0 (string e.1) (texts_value m) h in
    grind (arith, first_of_rest e.0 q m p.3 p.0, p.1, p.2, remove_text_held q m p.3)

pub set_held : PutIsHeld → (name : Text) (text : Option Text) (m : Texts) → is_utf8 name ≡ true → IfSome text (λ t. is_utf8 t ≡ true) → HoldsTexts m → HoldsTexts (set_extension name text m)
unfolding is_utf8 chars lib.Utf8.encode
set_held put_is name None m named written h = remove_text_held metadata_key (put_text name_key name m) (put_text_held put_is name_key name m refl named h)
set_held put_is name (Some t) m named written h =
    put_text_held put_is metadata_key t (put_text name_key name m) refl written (put_text_held put_is name_key name m refl named h)

-- ---- setting the keys again changes nothing

put_twice : (k t : Text) (m : Texts) → put_text k t (put_text k t m) ≡ put_text k t m
put_twice k t [] = rw (tied_itself nat_list_cmp_total k) refl
put_twice k t (e ∷ m) = grind (arith, tied_itself nat_list_cmp_total k, put_twice k t m)

remove_twice : (q : Text) (m : Texts) → remove_text q (remove_text q m) ≡ remove_text q m
remove_twice q [] = refl
remove_twice q (e ∷ m) = grind (arith, remove_twice q m)

-- there is no text at a key that comes before all
none_before : (k : Text) (m : Texts) → HoldsTexts m → comes_first k (texts_value m) ≡ true → text_at k m ≡ None
none_before k [] h first = refl
none_before k (e ∷ m) h first =
    let p = held_parts e.0 (string e.1) (texts_value m) h in
    grind (arith, is_eq-slice_cmp k e.0, none_before k m p.3 (next_first k e m first p.0))

-- putting the text that stands at a key changes nothing
put_same : (k t : Text) (m : Texts) → HoldsTexts m → text_at k m ≡ Some t → put_text k t m ≡ m
put_same k t [] h here = absurd cc
put_same k t (e ∷ m) h here =
    let p = held_parts e.0 (string e.1) (texts_value m) h in
    let none = λ (first : comes_first k (texts_value (e ∷ m)) ≡ true). none_before k m p.3 (next_first k e m first p.0) in
    grind (arith, is_eq-slice_cmp k e.0, none, put_same k t m p.3)

pub set_again : (name : Text) (text : Option Text) (m : Texts) → HoldsTexts (set_extension name text m) → text_at name_key (set_extension name text m) ≡ Some name
    → set_extension name text (set_extension name text m) ≡ set_extension name text m
set_again name None m h named = ap (remove_text metadata_key) (put_same name_key name (set_extension name None m) h named) ∙ remove_twice metadata_key (put_text name_key name m)
set_again name (Some t) m h named = ap (put_text metadata_key t) (put_same name_key name (set_extension name (Some t) m) h named) ∙ put_twice metadata_key t (put_text name_key name m)

-- the text at a key is UTF-8
pub text_held : (k : Text) (m : Texts) → HoldsTexts m → IfSome (text_at k m) (λ t. is_utf8 t ≡ true)
text_held k [] h = tt
text_held k (e ∷ m) h =
    let p = held_parts e.0 (string e.1) (texts_value m) h in
    grind (arith, p.2, text_held k m p.3)
