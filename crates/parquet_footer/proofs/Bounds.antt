-- A rule is broken within the bytes that are read: what a step leaves, and what it finds, is never longer than what it was given.
use Rattle.std.proofs.Common.{◌≡◌, ℕ, zero, suc, ◌-◌, ◌/◌, ◌≤◌, nat_lt, List, [], ◌∷◌, length, Bool, true, false, Option, Some, None, Result, Ok, Err, subst, arith, length-drop, ◌==◌, if◌then◌else◌}
use Rattle.parquet_footer.specs.declared.fault.Fault.{Fault}
use Rattle.parquet_footer.specs.Fault.{needed, ◌>>=◌}
use Rattle.parquet_footer.specs.Wire.{byte_at, number_at, number_past, signed_at, count_at, bytes_past, binary_at, text_at, list_at, map_at, field_at}
use Rattle.parquet_footer.specs.Fields.{Spot, noted, noting, pair_at, value_of, number_in, count_in, numbers_at, text_in, flag_in, structs_in}
use Rattle.parquet_footer.specs.Spelled.{spelled_at, spelled_in}
use Rattle.parquet_footer.specs.Logical.{algorithm_in, union_at, unit_in, decimal_at, clock_at, width_in, integer_at, geometry_at, geography_at, member_at, logical_by, logical_at, logical_in}
use Rattle.parquet_footer.specs.Element.{storage_at, element_at}
use Rattle.parquet_footer.specs.Footer.{all_at, key_value_at, footer_at}
use Rattle.parquet_footer.specs.Skip.{fields_at, items_past, plain_past, over, struct_past, pair_past, nested_past, value_past}

abbrev Holds : {A : Type 0} → (A → Type 0) → ℕ → Result A Fault → Type 0
Holds P n (Ok x) = P x
Holds P n (Err e) = e.left ≤ n

-- what is read meets P, and the fault has no more than n bytes left
pub record Within {A : Type 0} (P : A → Type 0) (n : ℕ) (read : Result A Fault) : Type 0 where
  pub holds : Holds P n read

pub reads : {A : Type 0} (P : A → Type 0) (n : ℕ) (x : A) → P x → Within P n (Ok x)
reads P n x h = record { holds = h }

pub refuses : {A : Type 0} (P : A → Type 0) (n : ℕ) (e : Fault) → e.left ≤ n → Within P n (Err e)
refuses P n e h = record { holds = h }

module _ {A B : Type 0} (P : A → Type 0) (Q : B → Type 0) (n : ℕ) where
  pub step : (read : Result A Fault) (next : A → Result B Fault) → Within P n read → ((x : A) → P x → Within Q n (next x)) → Within Q n (read >>= next)
  step (Ok x) next h more = more x h.holds
  step (Err e) next h more = record { holds = h.holds }

pub either : {A : Type 0} (P : A → Type 0) (n : ℕ) (b : Bool) (x y : Result A Fault) → Within P n x → Within P n y → Within P n (if b then x else y)
either P n true x y h k = h
either P n false x y h k = k

-- a rule that is kept, or is the fault
pub checked : {A : Type 0} (P : A → Type 0) (n : ℕ) (is_kept : Bool) (e : Fault) (next : Result A Fault) → e.left ≤ n → Within P n next → Within P n ((if is_kept then Ok (tt {0}) else Err e) >>= λ _. next)
checked P n true e next h more = more
checked P n false e next h more = refuses P n e h

pub byte_within : (n : ℕ) (bytes : List ℕ) → length bytes ≤ n → Within (λ x. length x.1 ≤ n) n (byte_at bytes)
byte_within n [] h = refuses _ n _ h
byte_within n (b ∷ rest) h = reads _ n _ (omega arith)

pub number_within : (n most : ℕ) (bytes : List ℕ) → length bytes ≤ n → Within (λ x. length x.1 ≤ n) n (number_at most bytes)
unfolding number_at
number_within n most [] h = refuses _ n _ h
number_within n most (b ∷ rest) h =
    let less : length rest ≤ n = omega arith in
    either _ n _ _ _ (reads _ n _ less) (checked _ n _ _ _ h
    (step (λ x. length x.1 ≤ n) _ n _ _ (number_within n (most - 1) rest less) (λ high k. checked _ n _ _ _ h (reads _ n _ k))))

pub past_within : (n most : ℕ) (bytes : List ℕ) → length bytes ≤ n → Within (λ x. length x ≤ n) n (number_past most bytes)
unfolding number_past
past_within n most [] h = refuses _ n _ h
past_within n most (b ∷ rest) h =
    let less : length rest ≤ n = omega arith in
    either _ n _ _ _ (reads _ n _ less) (either _ n _ _ _ (refuses _ n _ h) (past_within n (most - 1) rest less))

module _ (n : ℕ) (bytes : List ℕ) (h : length bytes ≤ n) where
  pub signed_within : Within (λ x. length x.1 ≤ n) n (signed_at bytes)
  unfolding signed_at
  signed_within = step (λ x. length x.1 ≤ n) _ n _ _ (number_within n 5 bytes h) (λ x k. reads _ n _ k)

  pub count_within : Within (λ x. length x.1 ≤ n) n (count_at bytes)
  unfolding count_at
  count_within = step (λ x. length x.1 ≤ n) _ n _ _ (number_within n 5 bytes h) (λ x k. checked _ n _ _ _ h (reads _ n _ k))

  pub bytes_within : (count : ℕ) → Within (λ x. length x ≤ n) n (bytes_past count bytes)
  bytes_within count = checked _ n _ _ _ h (reads _ n _ (omega (arith, length-drop count bytes)))

  pub binary_within : Within (λ x. length x.1 ≤ n) n (binary_at bytes)
  unfolding binary_at
  binary_within = step (λ x. length x.1 ≤ n) _ n _ _ (number_within n 5 bytes h) (λ x k. checked _ n _ _ _ h (reads _ n _ (omega (arith, k, length-drop x.0 x.1))))

  pub text_within : Within (λ x. Unit {0}) n (text_at bytes)
  unfolding text_at
  text_within = step (λ x. length x.1 ≤ n) _ n _ _ binary_within (λ x k. either _ n _ _ _ (reads _ n _ tt) (refuses _ n _ h))

  pub size_within : (head : ℕ) → Within (λ x. length x.1 ≤ n) n (if nat_lt head 240 then Ok (head / 16, bytes) else number_at 5 bytes)
  size_within head = either _ n (nat_lt head 240) _ _ (reads _ n _ h) (number_within n 5 bytes h)

module _ (n : ℕ) (bytes : List ℕ) (h : length bytes ≤ n) where
  pub list_within : Within (λ x. length x.2 ≤ n) n (list_at bytes)
  unfolding list_at
  list_within = step (λ x. length x.1 ≤ n) _ n _ _ (byte_within n bytes h) (λ b k.
      step (λ x. length x.1 ≤ n) _ n _ _ (size_within n b.1 k b.0) (λ x l. checked _ n _ _ _ h (reads _ n _ l)))

  pub map_within : Within (λ x. length x.3 ≤ n) n (map_at bytes)
  unfolding map_at
  map_within = step (λ x. length x.1 ≤ n) _ n _ _ (number_within n 5 bytes h) (λ x k. either _ n _ _ _ (reads _ n _ k)
      (step (λ x. length x.1 ≤ n) _ n _ _ (byte_within n x.1 k) (λ b l. checked _ n _ _ _ h (reads _ n _ l))))

pub field_within : (n last : ℕ) (bytes : List ℕ) → length bytes ≤ n → Within (λ x. length x.2 ≤ n) n (field_at last bytes)
unfolding field_at
field_within n last bytes h = step (λ x. length x.1 ≤ n) _ n _ _ (byte_within n bytes h) (λ b k.
    either _ n _ _ _ (reads _ n _ k) (checked _ n _ _ _ h
    (step (λ x. length x.1 ≤ n) _ n _ _ (either _ n (b.0 / 16 == 0) _ _ (count_within n b.1 k) (reads _ n _ k)) (λ x l. checked _ n _ _ _ k (reads _ n _ l)))))

-- fields, where the step that takes the state on keeps P and the bounds
module _ {S : Type 0} (P : S → Type 0) (n : ℕ) (next : S → ℕ → ℕ → List ℕ → Result (S × List ℕ) Fault)
    (keeps : (s : S) (id type : ℕ) (bytes : List ℕ) → P s → length bytes ≤ n → Within (λ x. P x.0 × (length x.1 ≤ n)) n (next s id type bytes)) where
  pub fields_within : (m last : ℕ) (s : S) (bytes : List ℕ) → P s → length bytes ≤ n → Within (λ x. P x.0 × (length x.1 ≤ n)) n (fields_at next m last s bytes)
  unfolding fields_at
  fields_within zero last s bytes p h = refuses _ n _ h
  fields_within (suc m) last s bytes p h = step (λ x. length x.2 ≤ n) _ n _ _ (field_within n last bytes h) (λ f k.
      either _ n _ _ _ (reads _ n _ (p, k)) (step (λ x. P x.0 × (length x.1 ≤ n)) _ n _ _ (keeps s f.0 f.1 f.2 p k) (λ x l. fields_within m f.0 x.0 x.1 l.0 l.1)))

module _ (n : ℕ) (item : List ℕ → Result (List ℕ) Fault) (within : (bytes : List ℕ) → length bytes ≤ n → Within (λ x. length x ≤ n) n (item bytes)) where
  pub items_within : (m : ℕ) (bytes : List ℕ) → length bytes ≤ n → Within (λ x. length x ≤ n) n (items_past item m bytes)
  unfolding items_past
  items_within zero bytes h = reads _ n _ h
  items_within (suc m) bytes h = step (λ x. length x ≤ n) _ n _ _ (within bytes h) (λ x k. items_within m x k)

pub plain_within : (n type : ℕ) (bytes : List ℕ) → length bytes ≤ n → Within (λ x. length x ≤ n) n (plain_past type bytes)
unfolding plain_past
plain_within n type bytes h =
    let same = reads (λ (x : List ℕ). length x ≤ n) n bytes h in
    let number = past_within n 10 bytes h in
    either _ n (type == 1) _ _ same (either _ n (type == 2) _ _ same (either _ n (type == 3) _ _ (bytes_within n bytes h 1)
    (either _ n (type == 4) _ _ number (either _ n (type == 5) _ _ number (either _ n (type == 6) _ _ number (either _ n (type == 7) _ _ (bytes_within n bytes h 8)
    (either _ n (type == 8) _ _ (step (λ x. length x.1 ≤ n) _ n _ _ (binary_within n bytes h) (λ x k. reads _ n _ k))
    (either _ n (type == 13) _ _ (bytes_within n bytes h 16) (refuses _ n _ h)))))))))

module _ (n : ℕ) (value : ℕ → List ℕ → Result (List ℕ) Fault) (within : (type : ℕ) (bytes : List ℕ) → length bytes ≤ n → Within (λ x. length x ≤ n) n (value type bytes)) where
  pub struct_within : (bytes : List ℕ) → length bytes ≤ n → Within (λ x. length x ≤ n) n (struct_past value bytes)
  unfolding struct_past
  struct_within bytes h = step (λ x. Unit {0} × (length x.1 ≤ n)) _ n _ _
      (fields_within (λ s. Unit {0}) n (over value) (λ s id type bytes p k. step (λ x. length x ≤ n) _ n _ _ (within type bytes k) (λ x l. reads _ n _ (tt, l))) (length bytes) 0 tt bytes tt h)
      (λ x k. reads _ n _ k.1)

  pub nested_within : (type : ℕ) (bytes : List ℕ) → length bytes ≤ n → Within (λ x. length x ≤ n) n (nested_past value type bytes)
  unfolding nested_past
  nested_within type bytes h = either _ n _ _ _ (struct_within bytes h) (either _ n _ _ _
      (step (λ x. length x.3 ≤ n) _ n _ _ (map_within n bytes h) (λ m k.
      items_within n (pair_past value m.0 m.1) (λ bytes l. step (λ x. length x ≤ n) _ n _ _ (within m.0 bytes l) (λ x o. within m.1 x o)) m.2 m.3 k))
      (step (λ x. length x.2 ≤ n) _ n _ _ (list_within n bytes h) (λ m k. items_within n (value m.0) (within m.0) m.1 m.2 k)))

pub value_within : (n levels type : ℕ) (bytes : List ℕ) → length bytes ≤ n → Within (λ x. length x ≤ n) n (value_past levels type bytes)
unfolding value_past
value_within n zero type bytes h = either _ n _ _ _ (plain_within n type bytes h) (refuses _ n _ h)
value_within n (suc levels) type bytes h = either _ n _ _ _ (plain_within n type bytes h) (nested_within n (value_past levels) (value_within n levels) type bytes h)

-- a field is found within the bytes
abbrev pub Found : ℕ → Option Spot → Type 0
Found n None = Unit {0}
Found n (Some p) = length p.1 ≤ n

abbrev pub FoundBoth : ℕ → Option Spot × Option Spot → Type 0
FoundBoth n found = Found n found.0 × Found n found.1

pub noted_within : (n wanted id : ℕ) (value : Spot) (old : Option Spot) → length value.1 ≤ n → Found n old → Within (Found n) n (noted wanted id value old)
noted_within n wanted id value None h found = either _ n _ _ _ (reads _ n _ h) (reads _ n _ tt)
noted_within n wanted id value (Some old) h found = either _ n _ _ _ (refuses _ n _ h) (reads _ n _ found)

module _ (n one other : ℕ) where
  pub noting_within : (found : Option Spot × Option Spot) (id type : ℕ) (bytes : List ℕ) → FoundBoth n found → length bytes ≤ n → Within (λ x. FoundBoth n x.0 × (length x.1 ≤ n)) n (noting one other found id type bytes)
  unfolding noting
  noting_within found id type bytes f h = step (λ x. length x ≤ n) _ n _ _ (value_within n 64 type bytes h) (λ rest k.
      step (Found n) _ n _ _ (noted_within n one id (type, bytes) found.0 h f.0) (λ a l.
      step (Found n) _ n _ _ (noted_within n other id (type, bytes) found.1 h f.1) (λ b m. reads _ n _ ((l, m), k))))

  pub pair_within : (bytes : List ℕ) → length bytes ≤ n → Within (λ x. FoundBoth n x.0 × (length x.1 ≤ n)) n (pair_at one other bytes)
  unfolding pair_at
  pair_within bytes h = fields_within (FoundBoth n) n (noting one other) noting_within (length bytes) 0 (None, None) bytes (tt, tt) h

pub value_of_within : (n type : ℕ) (p : Spot) → length p.1 ≤ n → Within (λ x. length x ≤ n) n (value_of type p)
value_of_within n type p h = checked _ n _ _ _ h (reads _ n _ h)

pub number_in_within : (n : ℕ) (p : Option Spot) → Found n p → Within (λ x. Unit {0}) n (number_in p)
number_in_within n None f = reads _ n _ tt
number_in_within n (Some p) f = step (λ x. length x ≤ n) _ n _ _ (value_of_within n 5 p f) (λ x k. step (λ x. length x.1 ≤ n) _ n _ _ (signed_within n x k) (λ x _. reads _ n _ tt))

pub count_in_within : (n : ℕ) (p : Option Spot) → Found n p → Within (λ x. Unit {0}) n (count_in p)
count_in_within n None f = reads _ n _ tt
count_in_within n (Some p) f = step (λ x. length x ≤ n) _ n _ _ (value_of_within n 5 p f) (λ x k. step (λ x. length x.1 ≤ n) _ n _ _ (count_within n x k) (λ x _. reads _ n _ tt))

module _ (n one other : ℕ) (bytes : List ℕ) (h : length bytes ≤ n) where
  pub numbers_within : Within (λ x. Unit {0}) n (numbers_at one other bytes)
  unfolding numbers_at
  numbers_within = step (λ x. FoundBoth n x.0 × (length x.1 ≤ n)) _ n _ _ (pair_within n one other bytes h) (λ found k.
      step (λ x. Unit {0}) _ n _ _ (number_in_within n found.0.0 k.0.0) (λ first _.
      step (λ x. Unit {0}) _ n _ _ (number_in_within n found.0.1 k.0.1) (λ second _. reads _ n _ tt)))

pub text_in_within : (n : ℕ) (p : Option Spot) → Found n p → Within (λ x. Unit {0}) n (text_in p)
unfolding text_in
text_in_within n None f = reads _ n _ tt
text_in_within n (Some p) f = step (λ x. length x ≤ n) _ n _ _ (value_of_within n 8 p f) (λ x k. step (λ x. Unit {0}) _ n _ _ (text_within n x k) (λ x _. reads _ n _ tt))

pub spelled_within : (n size : ℕ) (bytes : List ℕ) → length bytes ≤ n → Within (λ x. Unit {0}) n (spelled_at size bytes)
unfolding spelled_at
spelled_within n size bytes h = step (λ x. length x.1 ≤ n) _ n _ _ (number_within n 5 bytes h) (λ x k. checked _ n _ _ _ h (reads _ n _ tt))

pub spelled_in_within : (n size : ℕ) (p : Option Spot) → Found n p → Within (λ x. Unit {0}) n (spelled_in size p)
unfolding spelled_in
spelled_in_within n size None f = reads _ n _ tt
spelled_in_within n size (Some p) f = step (λ x. length x ≤ n) _ n _ _ (value_of_within n 8 p f) (λ x k. step (λ x. Unit {0}) _ n _ _ (spelled_within n size x k) (λ x _. reads _ n _ tt))

pub structs_within : (n : ℕ) (p : Option Spot) → Found n p → Within (λ x. length x.1 ≤ n) n (structs_in p)
unfolding structs_in
structs_within n None f = reads _ n _ (omega arith)
structs_within n (Some p) f = step (λ x. length x ≤ n) _ n _ _ (value_of_within n 9 p f) (λ x k.
    step (λ x. length x.2 ≤ n) _ n _ _ (list_within n x k) (λ l m. checked _ n _ _ _ k (reads _ n _ m)))

pub needed_within : {A : Type 0} (n : ℕ) (bytes : List ℕ) (x : Option A) → length bytes ≤ n → Within (λ x. Unit {0}) n (needed bytes x)
needed_within n bytes None h = refuses _ n _ h
needed_within n bytes (Some x) h = reads _ n _ tt

pub place_within : (n : ℕ) (bytes : List ℕ) (p : Option Spot) → length bytes ≤ n → Found n p → Within (λ p. length p.1 ≤ n) n (needed bytes p)
place_within n bytes None h f = refuses _ n _ h
place_within n bytes (Some p) h f = reads _ n _ f

-- the one member of a union, if it has one
abbrev pub Member : ℕ → Option (ℕ × Spot) → Type 0
Member n None = Unit {0}
Member n (Some m) = length m.1.1 ≤ n

-- the parts of an element
module _ (n : ℕ) (bytes : List ℕ) (h : length bytes ≤ n) where
  abbrev Pair : ((Option Spot × Option Spot) × List ℕ) → Type 0
  Pair x = FoundBoth n x.0 × (length x.1 ≤ n)

  pub storage_within : (size : ℕ) → Within (λ x. Unit {0}) n (storage_at size bytes)
  unfolding storage_at
  storage_within size = step (λ x. Unit {0}) _ n _ _ (numbers_within n 1 2 bytes h) (λ types _.
      step Pair _ n _ _ (pair_within n 3 4 bytes h) (λ names l.
      step (λ x. Unit {0}) _ n _ _ (number_in_within n names.0.0 l.0.0) (λ repetition _.
      step (λ x. Unit {0}) _ n _ _ (spelled_in_within n size names.0.1 l.0.1) (λ text _.
      step (λ x. Unit {0}) _ n _ _ (needed_within n bytes text h) (λ name _. reads _ n _ tt)))))

  pub geometry_within : Within (λ x. Unit {0}) n (geometry_at bytes)
  unfolding geometry_at
  geometry_within = step Pair _ n _ _ (pair_within n 1 1 bytes h) (λ found k.
      step (λ x. Unit {0}) _ n _ _ (text_in_within n found.0.0 k.0.0) (λ crs _. reads _ n _ tt))

  algorithm_within : (p : Option Spot) → Found n p → Within (λ x. Unit {0}) n (algorithm_in p)
  unfolding algorithm_in
  algorithm_within p f = step (λ x. Unit {0}) _ n _ _ (number_in_within n p f) (λ number _. reads _ n _ tt)

  pub geography_within : Within (λ x. Unit {0}) n (geography_at bytes)
  unfolding geography_at
  geography_within = step Pair _ n _ _ (pair_within n 1 2 bytes h) (λ found k.
      step (λ x. Unit {0}) _ n _ _ (text_in_within n found.0.0 k.0.0) (λ crs _.
      step (λ x. Unit {0}) _ n _ _ (algorithm_within found.0.1 k.0.1) (λ algorithm _. reads _ n _ tt)))

  pub flag_within : (p : Option Spot) → Found n p → Within (λ x. Unit {0}) n (flag_in bytes p)
  flag_within p f = step (λ p. length p.1 ≤ n) _ n _ _ (place_within n bytes p h f) (λ p k. checked _ n _ _ _ k (reads _ n _ tt))

  pub width_in_within : (p : Option Spot) → Found n p → Within (λ x. Unit {0}) n (width_in bytes p)
  unfolding width_in
  width_in_within p f = step (λ p. length p.1 ≤ n) _ n _ _ (place_within n bytes p h f) (λ p k.
      step (λ x. length x ≤ n) _ n _ _ (value_of_within n 3 p k) (λ x l. step (λ x. length x.1 ≤ n) _ n _ _ (byte_within n x l) (λ b _. reads _ n _ tt)))

  pub union_within : Within (Member n) n (union_at bytes)
  unfolding union_at
  union_within = step (λ x. length x.2 ≤ n) _ n _ _ (field_within n 0 bytes h) (λ f k. either _ n _ _ _ (reads _ n _ tt)
      (step (λ x. length x ≤ n) _ n _ _ (value_within n 64 f.1 f.2 k) (λ rest l.
      step (λ x. length x.1 ≤ n) _ n _ _ (byte_within n rest l) (λ end _. checked _ n _ _ _ l (reads _ n _ k)))))

  pub decimal_within : Within (λ x. Unit {0}) n (decimal_at bytes)
  unfolding decimal_at
  decimal_within = step (λ x. Unit {0}) _ n _ _ (numbers_within n 1 2 bytes h) (λ numbers _. reads _ n _ tt)

module _ (n : ℕ) (bytes : List ℕ) (h : length bytes ≤ n) where
  pub unit_in_within : (p : Option Spot) → Found n p → Within (λ x. Unit {0}) n (unit_in bytes p)
  unfolding unit_in
  unit_in_within p f = step (λ p. length p.1 ≤ n) _ n _ _ (place_within n bytes p h f) (λ p k. step (λ x. length x ≤ n) _ n _ _ (value_of_within n 12 p k) (λ x l.
      step (Member n) _ n _ _ (union_within n x l) (λ u _. reads _ n _ tt)))

  pub clock_within : (id : ℕ) → Within (λ x. Unit {0}) n (clock_at id bytes)
  unfolding clock_at
  clock_within id = step (λ x. FoundBoth n x.0 × (length x.1 ≤ n)) _ n _ _ (pair_within n 1 2 bytes h) (λ found k.
      step (λ x. Unit {0}) _ n _ _ (flag_within n bytes h found.0.0 k.0.0) (λ utc _.
      step (λ x. Unit {0}) _ n _ _ (unit_in_within found.0.1 k.0.1) (λ unit _. reads _ n _ tt)))

  pub integer_within : Within (λ x. Unit {0}) n (integer_at bytes)
  unfolding integer_at
  integer_within = step (λ x. FoundBoth n x.0 × (length x.1 ≤ n)) _ n _ _ (pair_within n 1 2 bytes h) (λ found k.
      step (λ x. Unit {0}) _ n _ _ (width_in_within n bytes h found.0.0 k.0.0) (λ width _.
      step (λ x. Unit {0}) _ n _ _ (flag_within n bytes h found.0.1 k.0.1) (λ signed _. reads _ n _ tt)))

module _ (n : ℕ) (bytes : List ℕ) (h : length bytes ≤ n) where
  pub member_within : (id : ℕ) → Within (λ x. Unit {0}) n (member_at id bytes)
  unfolding member_at
  member_within id =
      either _ n (id == 5) _ _ (decimal_within n bytes h) (either _ n (id == 7) _ _ (clock_within n bytes h id) (either _ n (id == 8) _ _ (clock_within n bytes h id) (either _ n (id == 10) _ _ (integer_within n bytes h)
      (either _ n (id == 17) _ _ (geometry_within n bytes h) (either _ n (id == 18) _ _ (geography_within n bytes h) (reads _ n _ tt))))))

by_within : (n : ℕ) (m : Option (ℕ × Spot)) → Member n m → Within (λ x. Unit {0}) n (logical_by m)
by_within n None k = reads _ n _ tt
by_within n (Some m) k = step (λ x. length x ≤ n) _ n _ _ (value_of_within n 12 m.1 k) (λ x l. member_within n x l m.0)

module _ (n : ℕ) (bytes : List ℕ) (h : length bytes ≤ n) where
  pub logical_within : Within (λ x. Unit {0}) n (logical_at bytes)
  unfolding logical_at
  logical_within = step (Member n) _ n _ _ (union_within n bytes h) (λ m k. by_within n m k)

pub logical_in_within : (n : ℕ) (p : Option Spot) → Found n p → Within (λ x. Unit {0}) n (logical_in p)
unfolding logical_in
logical_in_within n None f = reads _ n _ tt
logical_in_within n (Some p) f = step (λ x. length x ≤ n) _ n _ _ (value_of_within n 12 p f) (λ x k. step (λ x. Unit {0}) _ n _ _ (logical_within n x k) (λ says _. reads _ n _ tt))

module _ (n : ℕ) (bytes : List ℕ) (h : length bytes ≤ n) where
  pub element_within : (size : ℕ) → Within (λ x. length x.1 ≤ n) n (element_at size bytes)
  unfolding element_at
  element_within size = step (λ x. Unit {0}) _ n _ _ (storage_within n bytes h size) (λ storage _.
      step (λ x. FoundBoth n x.0 × (length x.1 ≤ n)) _ n _ _ (pair_within n 5 6 bytes h) (λ found l.
      step (λ x. Unit {0}) _ n _ _ (count_in_within n found.0.0 l.0.0) (λ num_children _.
      step (λ x. Unit {0}) _ n _ _ (number_in_within n found.0.1 l.0.1) (λ converted_type _.
      step (λ x. Unit {0}) _ n _ _ (numbers_within n 7 8 bytes h) (λ digits _.
      step (λ x. FoundBoth n x.0 × (length x.1 ≤ n)) _ n _ _ (pair_within n 10 10 bytes h) (λ last k.
      step (λ x. Unit {0}) _ n _ _ (logical_in_within n last.0.0 k.0.0) (λ logical_type _. reads _ n _ k.1)))))))

  pub key_value_within : (size : ℕ) → Within (λ x. length x.1 ≤ n) n (key_value_at size bytes)
  unfolding key_value_at
  key_value_within size = step (λ x. FoundBoth n x.0 × (length x.1 ≤ n)) _ n _ _ (pair_within n 1 2 bytes h) (λ found k.
      step (λ x. Unit {0}) _ n _ _ (spelled_in_within n size found.0.0 k.0.0) (λ text _.
      step (λ x. Unit {0}) _ n _ _ (needed_within n bytes text h) (λ key _.
      step (λ x. Unit {0}) _ n _ _ (spelled_in_within n size found.0.1 k.0.1) (λ value _. reads _ n _ k.1))))

module _ {A : Type 0} (n : ℕ) (item : List ℕ → Result (A × List ℕ) Fault) (within : (bytes : List ℕ) → length bytes ≤ n → Within (λ x. length x.1 ≤ n) n (item bytes)) where
  pub all_within : (m : ℕ) (bytes : List ℕ) → length bytes ≤ n → Within (λ x. Unit {0}) n (all_at item m bytes)
  unfolding all_at
  all_within zero bytes h = reads _ n _ tt
  all_within (suc m) bytes h = step (λ x. length x.1 ≤ n) _ n _ _ (within bytes h) (λ first k.
      step (λ x. Unit {0}) _ n _ _ (all_within m first.1 k) (λ others _. reads _ n _ tt))

pub footer_within : (bytes : List ℕ) → Within (λ x. Unit {0}) (length bytes) (footer_at bytes)
unfolding footer_at
footer_within bytes =
    let n = length bytes in
    let h : length bytes ≤ n = omega arith in
    step (λ x. FoundBoth n x.0 × (length x.1 ≤ n)) _ n _ _ (pair_within n 2 5 bytes h) (λ found k.
    step (λ p. length p.1 ≤ n) _ n _ _ (place_within n bytes found.0.0 h k.0.0) (λ elements l.
    step (λ x. length x.1 ≤ n) _ n _ _ (structs_within n (Some elements) l) (λ one m.
    step (λ x. length x.1 ≤ n) _ n _ _ (structs_within n found.0.1 k.0.1) (λ other o.
    step (λ x. Unit {0}) _ n _ _ (all_within n (element_at n) (λ bs k. element_within n bs k n) one.0 one.1 m) (λ schema _.
    step (λ x. Unit {0}) _ n _ _ (all_within n (key_value_at n) (λ bs k. key_value_within n bs k n) other.0 other.1 o) (λ key_values _. reads _ n _ tt))))))

-- so a fault of a footer leaves no more bytes than the footer has
pub fault_within : (bytes : List ℕ) (e : Fault) → footer_at bytes ≡ Err e → e.left ≤ length bytes
fault_within bytes e is =
    let w : Within (λ x. Unit {0}) (length bytes) (Err e) = subst (Within (λ x. Unit {0}) (length bytes)) is (footer_within bytes) in
    w.holds
