-- In how many rounds all that is wanted of a file is given.
use Rattle.std.specs.Prelude.{◌≡◌, ◌≤◌, ℕ, max, nat_lt, List, [], length, take, Option, None, Some, if◌then◌else◌}
use Rattle.column_files.specs.Forms.{head_bytes}
use Rattle.column_files.specs.Endings.{last}
use Rattle.wanted_ranges.specs.Wanted.{wanted}
use Rattle.wanted_ranges.specs.declared.ranges.Ranges.{Ranges}

-- what is wanted of a file of a known size, where so many of its first and of its last bytes are given
unfoldable pub next : List ℕ → Ranges → Ranges
next whole given = wanted (take given.head whole) (last given.tail whole) (Some (length whole))

-- after three rounds as much is wanted as is given, whatever was given at first
abbrev pub ThreeAreEnough : Type 0
ThreeAreEnough = (whole : List ℕ) (first : Ranges) → next whole (next whole (next whole (next whole first))) ≡ next whole (next whole (next whole first))

-- the size of a pipe is known once it has ended before so many bytes were read
abbrev pub size_read : List ℕ → ℕ → Option ℕ
size_read whole n = if nat_lt (length whole) n then Some (length whole) else None

-- how many of its first bytes are wanted, where so many are read, or all
unfoldable pub next_read : List ℕ → ℕ → ℕ
next_read whole n = (wanted (take n whole) [] (size_read whole n)).head

-- after two rounds no more is wanted than is read, of which the first are the bytes that tell the format
abbrev pub TwoAreEnough : Type 0
TwoAreEnough = (whole : List ℕ) → (let n = max head_bytes (next_read whole head_bytes) in next_read whole n ≤ length (take n whole))
