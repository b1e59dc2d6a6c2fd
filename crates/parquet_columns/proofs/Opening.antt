-- Groups that are left out, counted and entered.
use Rattle.std.proofs.Common.{◌≡◌, ◌<◌, ◌≤◌, nat_lt, ℕ, zero, suc, ◌+◌, ◌-◌, List, [], ◌∷◌, ◌++◌, length, map, drop, get_or, Option, Some, None, if◌then◌else◌, codes, refl, sym, ap, ◌∙◌, arith}
use Rattle.std.proofs.lemmas.Bool.{lt-ltb, le-ltb}
use Rattle.std.proofs.lemmas.List.{map-append, at_drop_more, drop_all, length-map, length-drop}
use Rattle.std.specs.Str.Lossy.{utf8_lossy}
use Rattle.arrow_values.specs.Tree.{Text}
use Rattle.parquet_footer.specs.declared.element.SchemaElement.{SchemaElement}
use Rattle.parquet_footer.specs.Element.{Element, element}
use Rattle.parquet_columns.specs.declared.levels.Level as declared
use Rattle.parquet_columns.specs.Levels.{Level, level, open_with, close, open_of, taken, entered, deep_from, open_behind, shown_names}

-- the innermost group is left out where no child of it is to come, and otherwise stays
used : (l : Level) (n : ℕ) → n ≡ 0 → open_with n l ≡ []
used l n is = ap (λ k. open_with k l) is

kept : (l : Level) (n : ℕ) → 0 < n → open_with n l ≡ l ∷ []
kept l zero some = absurd (omega (arith, some))
kept l (suc n) some = refl

pub open_more : (ls : List Level) (l : Level) → l.left ≡ 0 → open_of (ls ++ l ∷ []) ≡ open_of ls
open_more [] l is = used l l.left is
open_more (m ∷ ls) l is = ap (close m) (open_more ls l is)

around : (m : Level) (ls : List Level) (l : Level) → close m (ls ++ l ∷ []) ≡ m ∷ (ls ++ l ∷ [])
around m [] l = refl
around m (k ∷ ls) l = refl

pub open_kept : (ls : List Level) (l : Level) → 0 < l.left → open_of (ls ++ l ∷ []) ≡ ls ++ l ∷ []
open_kept [] l some = kept l l.left some
open_kept (m ∷ ls) l some = ap (close m) (open_kept ls l some) ∙ around m ls l

-- the innermost group has one child less to come
pub taken_last : (ls : List Level) (l : Level) → taken (ls ++ l ∷ []) ≡ ls ++ record { name = l.name; left = l.left - 1 } ∷ []
taken_last [] l = refl
taken_last (m ∷ []) l = refl
taken_last (m ∷ k ∷ ls) l = ap (λ xs. m ∷ xs) (taken_last (k ∷ ls) l)

-- the same of a list whose last group is taken out
module _ (before after : List declared.Level) (last : declared.Level) (taken_out : before ≡ after ++ last ∷ []) where
  so : map level before ≡ map level after ++ level last ∷ []
  so = ap (map level) taken_out ∙ map-append level after (last ∷ [])

  pub last_out : last.left ≡ 0 → open_of (map level before) ≡ open_of (map level after)
  last_out is = ap open_of so ∙ open_more (map level after) (level last) is

  pub last_kept : 0 < last.left → open_of (map level before) ≡ map level before
  last_kept some = ap open_of so ∙ open_kept (map level after) (level last) some ∙ sym so

  pub last_counted : taken (map level before) ≡ map level after ++ record { name = last.name.now; left = last.left - 1 } ∷ []
  last_counted = ap taken so ∙ taken_last (map level after) (level last)

-- elements that are entered one after the other
pub behind_first : (ls : List Level) (e : Element) (es : List Element) → open_behind ls (e ∷ es) ≡ open_behind (entered (open_of ls) e) es
unfolding open_behind
behind_first ls e es = refl

pub behind_none : (ls : List Level) → open_behind ls [] ≡ open_of ls
unfolding open_behind
behind_none ls = refl

module _ (es : List SchemaElement) (i : ℕ) (ls whole : List Level) (so_far : open_behind ls (map element (drop i es)) ≡ whole) where
  pub behind_goes_on : (e : SchemaElement) (now next : List Level) → i < length es → e ≡ get_or es i e → now ≡ open_of ls → next ≡ entered now (element e)
      → open_behind next (map element (drop (i + 1) es)) ≡ whole
  behind_goes_on e now next lt is closed same =
      let rest = map element (drop (i + 1) es) in
      ap (λ n. open_behind n rest) (same ∙ ap (λ o. entered o (element e)) closed) ∙ sym (behind_first ls (element e) rest)
      ∙ ap (λ (x : SchemaElement). open_behind ls (element x ∷ rest)) is ∙ sym (at_drop_more (λ ys. open_behind ls (map element ys)) es i e lt) ∙ so_far

  pub behind_ends : length es ≤ i → open_of ls ≡ whole
  behind_ends past = sym (behind_none ls) ∙ ap (λ ys. open_behind ls (map element ys)) (sym (drop_all i es past)) ∙ so_far

-- the first element that is too deep
deep_next : (at : ℕ) (ls : List Level) (e : Element) (es : List Element)
    → deep_from at ls (e ∷ es) ≡ (if nat_lt 63 (length (open_of ls)) then Some at else deep_from (at + 1) (entered (open_of ls) e) es)
unfolding deep_from
deep_next at ls e es = refl

deep_none : (at : ℕ) (ls : List Level) → deep_from at ls [] ≡ None
unfolding deep_from
deep_none at ls = refl

module _ (es : List SchemaElement) (i at : ℕ) (ls : List Level) (whole : Option ℕ) (so_far : deep_from at ls (map element (drop i es)) ≡ whole) where
  chosen : (e : SchemaElement) → i < length es → e ≡ get_or es i e
      → (if nat_lt 63 (length (open_of ls)) then Some at else deep_from (at + 1) (entered (open_of ls) (element e)) (map element (drop (i + 1) es))) ≡ whole
  chosen e lt is =
      let rest = map element (drop (i + 1) es) in
      sym (deep_next at ls (element e) rest) ∙ ap (λ (x : SchemaElement). deep_from at ls (element x ∷ rest)) is
      ∙ sym (at_drop_more (λ ys. deep_from at ls (map element ys)) es i e lt) ∙ so_far

  front : (ys : List Element) → 0 < length ys → 63 < length (open_of ls) → deep_from at ls ys ≡ Some at
  front [] some more = absurd (omega (arith, some))
  front (y ∷ ys) some more =
      deep_next at ls y ys ∙ ap (λ b. if b then Some at else deep_from (at + 1) (entered (open_of ls) y) ys) (lt-ltb 63 (length (open_of ls)) more)

  pub deep_here : i < length es → 63 < length (open_of ls) → Some at ≡ whole
  deep_here lt more =
      let size : length (map element (drop i es)) ≡ length es - i = length-map (drop i es) element ∙ length-drop i es in
      sym (front (map element (drop i es)) (omega (arith, size)) more) ∙ so_far

  pub deep_behind : (e : SchemaElement) (now next : List Level) (then_at : ℕ) → i < length es → e ≡ get_or es i e → now ≡ open_of ls → length (open_of ls) ≤ 63 → next ≡ entered now (element e)
      → then_at ≡ at + 1 → deep_from then_at next (map element (drop (i + 1) es)) ≡ whole
  deep_behind e now next then_at lt is closed few same place =
      let rest = map element (drop (i + 1) es) in
      ap (λ n. deep_from then_at n rest) (same ∙ ap (λ o. entered o (element e)) closed) ∙ ap (λ n. deep_from n (entered (open_of ls) (element e)) rest) place
      ∙ sym (ap (λ b. if b then Some at else deep_from (at + 1) (entered (open_of ls) (element e)) rest) (le-ltb 63 (length (open_of ls)) few)) ∙ chosen e lt is

  pub deep_ends : length es ≤ i → None ≡ whole
  deep_ends past = sym (deep_none at ls) ∙ ap (λ ys. deep_from at ls (map element ys)) (sym (drop_all i es past)) ∙ so_far

-- names that are shown one after the other
pub shown_more : (room left : ℕ) (name : Text) (names : List Text) → left + 1 ≡ room → shown_names room (name ∷ names) ≡ utf8_lossy name ∷ shown_names left names
shown_more zero left name names is = absurd (omega (arith, is))
shown_more (suc n) left name names is =
    let same : n ≡ left = omega (arith, is) in
    ap (λ k. utf8_lossy name ∷ shown_names k names) same

pub shown_full : (room : ℕ) (name : Text) (names : List Text) → room ≡ 0 → shown_names room (name ∷ names) ≡ codes ".." ∷ []
shown_full room name names is = ap (λ k. shown_names k (name ∷ names)) is
