-- In how many rounds all that is wanted of a file is given.
use Rattle.std.proofs.Common.{◌≡◌, inl, inr, ℕ, ◌+◌, ◌-◌, ◌<◌, ◌≤◌, min, max, List, [], ◌++◌, length, take, drop, if◌then◌else◌, Option, None, Some, refl, sym, ap, ◌∙◌, subst, arith}
use Rattle.std.proofs.lemmas.Bool.{cases_lt, lt-ltb, le-ltb}
use Rattle.std.proofs.lemmas.List.{length-take, take-append-drop}
use Rattle.column_files.specs.Forms.{head_bytes, head_form}
use Rattle.column_files.specs.Endings.{last}
use Rattle.column_files.specs.declared.form.Form.{Form}
use Rattle.column_files.specs.declared.form.Form.TheVariants.{ArrowFile, ArrowStream, Parquet, Lines, Foreign}
use Rattle.wanted_ranges.specs.Wanted.{capped, begin_of, arrow_told, parquet_told, at_most, end_by, wanted, wanted_by}
use Rattle.wanted_ranges.specs.Rounds.{next, ThreeAreEnough, size_read, next_read, TwoAreEnough}
use Rattle.wanted_ranges.specs.declared.ranges.Ranges.{Ranges}
use Rattle.wanted_ranges.proofs.Begins.{same_first, by_form, before_form, same_begin}
use Rattle.wanted_ranges.proofs.Bounds.{wanted_within}
use Rattle.wanted_ranges.proofs.Tails.{IsToldByLast, arrow_last, parquet_last}

abbrev form_in : List ℕ → Form
form_in whole = head_form (take head_bytes whole)

-- where the bytes that tell the format are given, what is wanted is told by it
form_told : (whole tail : List ℕ) (size : Option ℕ) (k : ℕ) → capped size head_bytes ≤ length (take k whole) → min head_bytes (length whole) ≤ k
    → wanted (take k whole) tail size ≡ wanted_by (form_in whole) (take k whole) tail size
form_told whole tail size k full long =
    let split = take-append-drop k whole in
    let room : min head_bytes (length (take k whole ++ drop k whole)) ≤ length (take k whole) = omega (arith, long, length-take k whole, ap length split) in
    let same : take head_bytes (take k whole) ≡ take head_bytes whole = same_first head_bytes (take k whole) (drop k whole) room ∙ ap (take head_bytes) split in
    by_form (take k whole) tail size full ∙ ap (λ l. wanted_by (head_form l) (take k whole) tail size) same

-- so many of the first
head_is : (whole tail : List ℕ) (size : Option ℕ) (k : ℕ) → capped size head_bytes ≤ length (take k whole) → min head_bytes (length whole) ≤ k
    → (wanted (take k whole) tail size).head ≡ capped size (max (begin_of (form_in whole) size whole) head_bytes)
head_is whole tail size k full long =
    ap (λ w. w.head) (form_told whole tail size k full long)
    ∙ ap (λ b. capped size (max b head_bytes)) (same_begin (form_in whole) size whole k (omega (arith, long)))

-- ---- a file of a known size

abbrev begin_in : List ℕ → ℕ
begin_in whole = min (max (begin_of (form_in whole) (Some (length whole)) whole) head_bytes) (length whole)

next_head : (whole : List ℕ) (given : Ranges) → min head_bytes (length whole) ≤ given.head → (next whole given).head ≡ begin_in whole
unfolding next
next_head whole given full =
    head_is whole (last given.tail whole) (Some (length whole)) given.head (omega (arith, full, length-take given.head whole)) full

next_tail : (whole : List ℕ) (given : Ranges) → min head_bytes (length whole) ≤ given.head
    → (next whole given).tail ≡ min (end_by (form_in whole) (length whole) (last given.tail whole)) (length whole - min given.head (length whole))
unfolding next
next_tail whole given full =
    ap (λ w. w.tail) (form_told whole (last given.tail whole) (Some (length whole)) given.head (omega (arith, full, length-take given.head whole)) full)
    ∙ ap (λ n. min (end_by (form_in whole) (length whole) (last given.tail whole)) (length whole - n)) (length-take given.head whole)

-- where fewer are given
next_first : (whole : List ℕ) (given : Ranges) → given.head < min head_bytes (length whole) → (next whole given).head ≡ min head_bytes (length whole)
unfolding next
next_first whole given short =
    ap (λ w. w.head) (before_form (take given.head whole) (last given.tail whole) (Some (length whole)) (omega (arith, short, length-take given.head whole)))

-- at least the bytes that tell the format are wanted, and no more than in later rounds
next_between : (whole : List ℕ) (given : Ranges) → (min head_bytes (length whole) ≤ (next whole given).head) × ((next whole given).head ≤ begin_in whole)
next_between whole given = elim (cases_lt given.head (min head_bytes (length whole))) [
  | inl short ↦ let is = next_first whole given short in (omega (arith, is), omega (arith, is))
  | inr full ↦ let is = next_head whole given full in (omega (arith, is), omega (arith, is))
]

-- ---- the end

short_is : (k footer m : ℕ) → m < k → min (k + footer) m ≡ m
short_is k footer m short = omega (arith, short)

least_is : (k footer m room : ℕ) → m ≤ room → min k m ≤ min (k + footer) room
least_is k footer m room fits = omega (arith, fits)

-- where its size and the magic are given, or all there is room for, no more is wanted in the next round
same_footer : (k most : ℕ) (told : List ℕ → ℕ) (whole : List ℕ) (m one two : ℕ) → IsToldByLast k told → m ≤ length whole → min k m ≤ one → min k m ≤ two
    → min (k + at_most most (told (last one whole))) m ≡ min (k + at_most most (told (last two whole))) m
same_footer k most told whole m one two by_last small first second = elim (cases_lt m k) [
  | inl short ↦ short_is k (at_most most (told (last one whole))) m short ∙ sym (short_is k (at_most most (told (last two whole))) m short)
  | inr long ↦
      let fits : k ≤ length whole = omega (arith, long, small) in
      ap (λ t. min (k + at_most most t) m) (by_last whole one (omega (arith, first, long)) fits ∙ sym (by_last whole two (omega (arith, second, long)) fits))
]

-- what is wanted of the end in a round, where there is that room
abbrev tail_by : Form → List ℕ → ℕ → ℕ → ℕ
tail_by form whole room given = min (end_by form (length whole) (last given whole)) room

same_tail : (form : Form) (whole : List ℕ) (m room given : ℕ) → m ≤ room → m ≤ length whole
    → tail_by form whole m (tail_by form whole m (tail_by form whole room given)) ≡ tail_by form whole m (tail_by form whole room given)
same_tail ArrowFile whole m room given fits small =
    let most = length whole - 10 - 8 in
    let first = tail_by ArrowFile whole room given in
    let second = tail_by ArrowFile whole m first in
    same_footer 10 most arrow_told whole m second first arrow_last small (least_is 10 (at_most most (arrow_told (last first whole))) m m (omega arith))
    (least_is 10 (at_most most (arrow_told (last given whole))) m room fits)
same_tail Parquet whole m room given fits small =
    let most = length whole - 8 - 4 in
    let first = tail_by Parquet whole room given in
    let second = tail_by Parquet whole m first in
    same_footer 8 most parquet_told whole m second first parquet_last small (least_is 8 (at_most most (parquet_told (last first whole))) m m (omega arith))
    (least_is 8 (at_most most (parquet_told (last given whole))) m room fits)
same_tail ArrowStream whole m room given fits small = refl
same_tail Lines whole m room given fits small = refl
same_tail (Foreign foreign) whole m room given fits small = refl

-- ---- three rounds

abbrev of : ℕ → ℕ → Ranges
of head tail = record { head = head; tail = tail }

ranges_are : (x y : Ranges) → x.head ≡ y.head → x.tail ≡ y.tail → x ≡ y
ranges_are x y heads tails = ap (λ h. of h x.tail) heads ∙ ap (λ t. of y.head t) tails

module _ (whole : List ℕ) (one two three : Ranges) (from : min head_bytes (length whole) ≤ one.head) (most_one : one.head ≤ begin_in whole) (two_is : two ≡ next whole one) (three_is : three ≡ next whole two) where
  size : ℕ
  size = length whole

  from_two : min head_bytes (length whole) ≤ two.head
  from_two = omega (arith, ap (λ w. w.head) two_is, (next_between whole one).0)

  from_three : min head_bytes (length whole) ≤ three.head
  from_three = omega (arith, ap (λ w. w.head) three_is, (next_between whole two).0)

  head_two : two.head ≡ begin_in whole
  head_two = ap (λ w. w.head) two_is ∙ next_head whole one from

  head_three : three.head ≡ begin_in whole
  head_three = ap (λ w. w.head) three_is ∙ next_head whole two from_two

  -- the room behind the first bytes
  room_is : (given : Ranges) → given.head ≡ begin_in whole → length whole - min given.head (length whole) ≡ length whole - begin_in whole
  room_is given is = ap (λ h. length whole - min h (length whole)) is ∙ omega arith

  tail_two : two.tail ≡ tail_by (form_in whole) whole (length whole - min one.head (length whole)) one.tail
  tail_two = ap (λ w. w.tail) two_is ∙ next_tail whole one from

  tail_three : three.tail ≡ tail_by (form_in whole) whole (length whole - begin_in whole) (tail_by (form_in whole) whole (length whole - min one.head (length whole)) one.tail)
  tail_three =
      ap (λ w. w.tail) three_is ∙ next_tail whole two from_two ∙ ap (λ m. tail_by (form_in whole) whole m two.tail) (room_is two head_two)
      ∙ ap (λ t. tail_by (form_in whole) whole (length whole - begin_in whole) t) tail_two

  tail_four : (next whole three).tail ≡ three.tail
  tail_four =
      next_tail whole three from_three ∙ ap (λ m. tail_by (form_in whole) whole m three.tail) (room_is three head_three)
      ∙ ap (λ t. tail_by (form_in whole) whole (length whole - begin_in whole) t) tail_three
      ∙ same_tail (form_in whole) whole (length whole - begin_in whole) (length whole - min one.head (length whole)) one.tail (omega (arith, most_one)) (omega arith)
      ∙ sym tail_three

  four_is : next whole three ≡ three
  four_is = ranges_are (next whole three) three (next_head whole three from_three ∙ sym head_three) tail_four

pub three_are_enough : ThreeAreEnough
three_are_enough whole first =
    let one = next whole first in
    let two = next whole one in
    let between = next_between whole first in
    four_is whole one two (next whole two) between.0 between.1 refl refl

-- ---- a pipe

all_read : (whole : List ℕ) (n : ℕ) → length whole < n → next_read whole n ≤ length (take n whole)
unfolding next_read
all_read whole n short =
    let is : size_read whole n ≡ Some (length whole) = ap (λ t. if t then Some (length whole) else None) (lt-ltb (length whole) n short) in
    let within : (wanted (take n whole) [] (Some (length whole))).head ≤ length whole = (wanted_within (take n whole) [] (Some (length whole))).0 in
    subst (λ s. (wanted (take n whole) [] s).head ≤ length (take n whole)) (sym is) (omega (arith, within, short, length-take n whole))

head_read : (whole : List ℕ) (n : ℕ) → head_bytes ≤ n → n ≤ length whole → next_read whole n ≡ max (begin_of (form_in whole) None whole) head_bytes
unfolding next_read
head_read whole n long fits =
    let is : size_read whole n ≡ None = ap (λ t. if t then Some (length whole) else None) (le-ltb (length whole) n fits) in
    ap (λ s. (wanted (take n whole) [] s).head) is
    ∙ head_is whole [] None n (omega (arith, long, fits, length-take n whole)) (omega (arith, long))

pub two_are_enough : TwoAreEnough
two_are_enough whole =
    let n = max head_bytes (next_read whole head_bytes) in
    elim (cases_lt (length whole) n) [
      | inl short ↦ all_read whole n short
      | inr fits ↦
          let first = head_read whole head_bytes (omega arith) (omega (arith, fits)) in
          let second = head_read whole n (omega arith) fits in
          omega (arith, first, second, fits, length-take n whole)
    ]
