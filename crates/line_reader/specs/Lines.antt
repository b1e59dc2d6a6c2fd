-- The lines of a source, one after another.
use Rattle.std.specs.Prelude.{◌≡◌, ◌≢◌, ℕ, ◌+◌, ◌-◌, ◌^◌, ◌<◌, ◌≤◌, ◌⊎◌, min, List, [], length, take, drop, Option, Some, None}
use Rattle.std.specs.Io.KnownBytes.{IsAtEnd}
use Rattle.std.specs.IoError.{error_kind}
use Rattle.std.specs.declared.io.ErrorKind.TheVariants.{Interrupted}
use Rattle.memchr.specs.Find.{is_byte, Passes, Nowhere, IsFirstByte}
use Rattle.line_reader.specs.declared.buffer.LineBuffer.{LineBuffer}
use Rattle.line_reader.specs.declared.error.LineError.{LineError}
use Rattle.line_reader.specs.declared.error.LineError.TheVariants.{Input, LongLine, OutOfMemory}

-- the byte that ends a line
abbrev pub line_feed : ℕ
line_feed = 10

-- at most so many bytes stand in a line, its line feed not among them
abbrev pub max_line_bytes : ℕ
max_line_bytes = 1048576

-- no byte of it is a line feed
abbrev pub HasNoFeed : List ℕ → Type 0
HasNoFeed bytes = IsFirstByte (is_byte line_feed) bytes None

-- more bytes than a line may have come before any line feed of the text
abbrev pub IsLong : List ℕ → Type 0
IsLong text = (max_line_bytes < length text) × Nowhere (Passes (is_byte line_feed) text) 0 (max_line_bytes + 1)

-- what is read of the source, behind the lines that are passed
abbrev pub held : LineBuffer → List ℕ
held lines = drop lines.start (take lines.end lines.buffer.items)

-- how many lines are passed, which stops at the greatest `usize`
abbrev pub max_count : ℕ
max_count = 2 ^ 64 - 1

abbrev pub passed : LineBuffer → ℕ
passed lines = min lines.count max_count

-- the bytes at hand, so many, are the last line, which no line feed ends
abbrev pub IsLast : List ℕ → Option (List ℕ) → ℕ → Type 0
IsLast bytes remaining len = (len ≡ length bytes) × (0 < len) × HasNoFeed bytes × IsAtEnd remaining

-- the bytes at hand have the next line whole, of so many bytes; or there is none
abbrev pub HasLine : List ℕ → Option (List ℕ) → Option ℕ → Type 0
HasLine bytes remaining None = (bytes ≡ []) × IsAtEnd remaining
HasLine bytes remaining (Some len) =
    (len ≤ max_line_bytes) × (IsFirstByte (is_byte line_feed) bytes (Some len) ⊎ IsLast bytes remaining len)

-- the bytes at hand may all belong to one line
abbrev pub IsBegun : List ℕ → Type 0
IsBegun bytes = HasNoFeed bytes × (length bytes ≤ max_line_bytes)

-- why the next line is not held after n lines: the bytes at hand have more than a line may have;
-- or a read failed before its end, but by no signal; or out of memory
abbrev pub IsUnfinished : ℕ → List ℕ → LineError → Type 0
IsUnfinished n bytes (LongLine k) = (k ≡ n) × IsLong bytes
IsUnfinished n bytes (Input error) = IsBegun bytes × (error_kind error ≢ Interrupted)
IsUnfinished n bytes OutOfMemory = IsBegun bytes
