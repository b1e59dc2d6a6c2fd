-- What is wanted of the begin of a file is told by its first 64 bytes.
use Rattle.std.proofs.Common.{◌≡◌, inl, inr, ℕ, ◌+◌, ◌-◌, ◌<◌, ◌≤◌, min, Bool, true, false, nat_lt, List, [], ◌∷◌, ◌++◌, length, take, if◌then◌else◌, Option, refl, sym, ap, ◌∙◌, subst, append-nil, arith}
use Rattle.std.proofs.Math.Seq.{take-append-add}
use Rattle.std.proofs.lemmas.Bool.{cases_lt, ltb-true, ltb-false}
use Rattle.std.proofs.lemmas.List.{length-append, take_all, take-append-le, nil_from_length}
use Rattle.column_files.specs.Forms.{head_bytes, head_form}
use Rattle.column_files.specs.Endings.{message_end}
use Rattle.column_files.specs.declared.form.Form.{Form}
use Rattle.column_files.specs.declared.form.Form.TheVariants.{ArrowFile, ArrowStream, Parquet, Lines, Foreign}
use Rattle.wanted_ranges.specs.Wanted.{capped, begin_of, wanted, wanted_by}
use Rattle.wanted_ranges.specs.declared.ranges.Ranges.{Ranges}

-- the first bytes, where all of them or as many as are asked for are given
pub same_first : (k : ℕ) (head rest : List ℕ) → min k (length (head ++ rest)) ≤ length head → take k head ≡ take k (head ++ rest)
same_first k head rest full = elim (cases_lt (length head) k) [
  | inl short ↦
      let none : rest ≡ [] = nil_from_length rest (omega (arith, full, short, length-append head rest)) in
      ap (take k) (sym (ap (λ l. head ++ l) none ∙ append-nil head))
  | inr many ↦ sym (take-append-le k head rest many)
]

-- where the bytes that tell the format are given, what is wanted is told by it
pub by_form : (head tail : List ℕ) (size : Option ℕ) → capped size head_bytes ≤ length head
    → wanted head tail size ≡ wanted_by (head_form (take head_bytes head)) head tail size
by_form head tail size full = by_test (nat_lt (length head) (capped size head_bytes)) refl
  where
    by_test : (t : Bool) → nat_lt (length head) (capped size head_bytes) ≡ t
        → (if t then record { head = capped size head_bytes; tail = 0 } else wanted_by (head_form (take head_bytes head)) head tail size)
        ≡ wanted_by (head_form (take head_bytes head)) head tail size
    by_test true is = absurd (omega (arith, full, ltb-true (length head) (capped size head_bytes) is))
    by_test false is = refl

-- else these are wanted
pub before_form : (head tail : List ℕ) (size : Option ℕ) → length head < capped size head_bytes
    → (let w : Ranges = record { head = capped size head_bytes; tail = 0 } in wanted head tail size ≡ w)
before_form head tail size short = by_test (nat_lt (length head) (capped size head_bytes)) refl
  where
    by_test : (t : Bool) → nat_lt (length head) (capped size head_bytes) ≡ t
        → (let w : Ranges = record { head = capped size head_bytes; tail = 0 } in
        (if t then w else wanted_by (head_form (take head_bytes head)) head tail size) ≡ w)
    by_test true is = refl
    by_test false is = absurd (omega (arith, short, ltb-false (length head) (capped size head_bytes) is))

-- they are given where no more is wanted
pub is_begun : (head tail : List ℕ) (size : Option ℕ) → (wanted head tail size).head ≤ length head → capped size head_bytes ≤ length head
is_begun head tail size enough = elim (cases_lt (length head) (capped size head_bytes)) [
  | inl short ↦ absurd (omega (arith, short, subst (λ w. w.head ≤ length head) (before_form head tail size short) enough))
  | inr full ↦ full
]

-- ---- the first message of a stream

abbrev begun : ℕ → ℕ → ℕ → ℕ → ℕ → ℕ → ℕ → ℕ → List ℕ → List ℕ
begun a b c d e f g h rest = a ∷ b ∷ c ∷ d ∷ e ∷ f ∷ g ∷ h ∷ rest

same_begun : (a b c d e f g h : ℕ) (rest : List ℕ) (k : ℕ) → 8 ≤ k → message_end (take k (begun a b c d e f g h rest)) ≡ message_end (begun a b c d e f g h rest)
same_begun a b c d e f g h rest k long =
    let first = begun a b c d e f g h [] in
    let place : k ≡ 8 + (k - 8) = omega (arith, long) in
    let parts : take k (begun a b c d e f g h rest) ≡ begun a b c d e f g h (take (k - 8) rest) =
    ap (λ n. take n (begun a b c d e f g h rest)) place ∙ take-append-add first rest (k - 8) in
    ap message_end parts

-- its end is told by the first eight bytes
pub same_end : (bytes : List ℕ) (k : ℕ) → min 8 (length bytes) ≤ k → message_end (take k bytes) ≡ message_end bytes
same_end (a ∷ b ∷ c ∷ d ∷ e ∷ f ∷ g ∷ h ∷ rest) k full = same_begun a b c d e f g h rest k (omega (arith, full))
same_end [] k full = ap message_end (take_all k [] (omega arith))
same_end (a ∷ []) k full = ap message_end (take_all k (a ∷ []) (omega (arith, full)))
same_end (a ∷ b ∷ []) k full = ap message_end (take_all k (a ∷ b ∷ []) (omega (arith, full)))
same_end (a ∷ b ∷ c ∷ []) k full = ap message_end (take_all k (a ∷ b ∷ c ∷ []) (omega (arith, full)))
same_end (a ∷ b ∷ c ∷ d ∷ []) k full = ap message_end (take_all k (a ∷ b ∷ c ∷ d ∷ []) (omega (arith, full)))
same_end (a ∷ b ∷ c ∷ d ∷ e ∷ []) k full = ap message_end (take_all k (a ∷ b ∷ c ∷ d ∷ e ∷ []) (omega (arith, full)))
same_end (a ∷ b ∷ c ∷ d ∷ e ∷ f ∷ []) k full = ap message_end (take_all k (a ∷ b ∷ c ∷ d ∷ e ∷ f ∷ []) (omega (arith, full)))
same_end (a ∷ b ∷ c ∷ d ∷ e ∷ f ∷ g ∷ []) k full = ap message_end (take_all k (a ∷ b ∷ c ∷ d ∷ e ∷ f ∷ g ∷ []) (omega (arith, full)))

pub same_begin : (form : Form) (size : Option ℕ) (bytes : List ℕ) (k : ℕ) → min 8 (length bytes) ≤ k → begin_of form size (take k bytes) ≡ begin_of form size bytes
same_begin ArrowStream size bytes k full = same_end bytes k full
same_begin (Foreign foreign) size bytes k full = refl
same_begin Lines size bytes k full = refl
same_begin ArrowFile size bytes k full = refl
same_begin Parquet size bytes k full = refl
