-- What the call that asks for bytes of a file means by its size, and what it answers.
use Rattle.std.specs.Prelude.{ℕ, ◌-◌, ◌^◌, ◌==◌, ◌&&◌, nat_le, List, length, Option, None, Some, if◌then◌else◌}
use Rattle.wanted_ranges.specs.declared.ranges.Ranges.{Ranges}

-- the size of a file; the greatest number says that it is not known
abbrev pub size_of : ℕ → Option ℕ
size_of n = if n == 2 ^ 64 - 1 then None else Some n

-- 0 where as many bytes are given as are wanted; else 1
abbrev pub more_of : List ℕ → List ℕ → Ranges → ℕ
more_of head tail ranges = if nat_le ranges.head (length head) && nat_le ranges.tail (length tail) then 0 else 1
