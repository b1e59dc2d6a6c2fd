-- No more is wanted than the file has.
use Rattle.std.proofs.Common.{◌-◌, ◌≤◌, min, Bool, true, false, nat_lt, List, ℕ, length, take, if◌then◌else◌, Option, None, Some, IfSome, arith}
use Rattle.column_files.specs.Forms.{head_bytes, head_form}
use Rattle.wanted_ranges.specs.Wanted.{wanted, wanted_by}
use Rattle.wanted_ranges.specs.declared.ranges.Ranges.{Ranges}

abbrev pub IsWithin : List ℕ → Option ℕ → Ranges → Type 0
IsWithin head size ranges = IfSome size (λ n. (ranges.head ≤ n) × (ranges.tail ≤ n - length head))

pub wanted_within : (head tail : List ℕ) (size : Option ℕ) → IsWithin head size (wanted head tail size)
wanted_within head tail None = tt
wanted_within head tail (Some n) = by_test (nat_lt (length head) (min head_bytes n))
  where
    by_test : (t : Bool) → IsWithin head (Some n) (if t then record { head = min head_bytes n; tail = 0 } else wanted_by (head_form (take head_bytes head)) head tail (Some n))
    by_test true = (omega arith, omega arith)
    by_test false = (omega arith, omega arith)
