-- The lines of an input, and their limits.
use Rattle.std.specs.Prelude.{◌≡◌, ◌≢◌, ◌⊎◌, ℕ, ◌<◌, ◌≤◌, ◌==◌, List, [], ◌∷◌, ◌++◌, length, All, if◌then◌else◌}
use Rattle.std.specs.List.{onto_first}
-- the byte that ends a line; and how many bytes stand in a line at most, its line feed not among them
pub use Rattle.line_reader.specs.Lines.{line_feed, max_line_bytes}

-- the bytes of an input, of a line without its line feed, or of an output
abbrev pub Bytes : Type 0
Bytes = List ℕ

-- at most so many lines are answered
abbrev pub max_lines : ℕ
max_lines = 1000000

-- the lines of an input: a line feed ends each, and the last may lack it
abbrev pub lines_of : Bytes → List Bytes
lines_of [] = []
lines_of (byte ∷ bytes) = if byte == line_feed then [] ∷ lines_of bytes else onto_first byte (lines_of bytes)

-- these lines, each with its line feed
abbrev pub ended_lines : List Bytes → Bytes
ended_lines [] = []
ended_lines (line ∷ lines) = line ++ (line_feed ∷ ended_lines lines)

-- no byte of it is a line feed
abbrev pub IsLine : Bytes → Type 0
IsLine bytes = All (λ byte. byte ≢ line_feed) bytes

-- these are no more lines than an input may have, and none of them is too long
pub record IsWithinLimits (lines : List Bytes) : Type 0 where
  pub few : length lines ≤ max_lines
  pub short : All (λ line. length line ≤ max_line_bytes) lines

-- it begins with more bytes than a line may have, and no line feed among them
pub record BeginsTooLong (bytes : Bytes) : Type 0 where
  pub begun : Bytes
  pub rest : Bytes
  pub joined : bytes ≡ begun ++ rest
  pub line : IsLine begun
  pub long : max_line_bytes < length begun

-- a line that is begun: no line feed has come, and no more bytes than a line may have
abbrev pub IsBegunLine : Bytes → Type 0
IsBegunLine bytes = IsLine bytes × (length bytes ≤ max_line_bytes)

-- what comes after `count` lines is past a limit: a byte of a line too many, or a line that is too long
abbrev pub IsPastLimit : ℕ → Bytes → Type 0
IsPastLimit count later = ((count ≡ max_lines) × (0 < length later)) ⊎ BeginsTooLong later

-- an input is these lines, each with its line feed, and what comes after them
pub record IsSplit (input : Bytes) (lines : List Bytes) (later : Bytes) : Type 0 where
  pub joined : input ≡ ended_lines lines ++ later
  pub each : All IsLine lines

-- some first lines of an input are within the limits, and their number and what comes after them are a cause to stop
pub record Stops (Cause : ℕ → Bytes → Type 0) (input : Bytes) : Type 0 where
  pub lines : List Bytes
  pub later : Bytes
  pub split : IsSplit input lines later
  pub within : IsWithinLimits lines
  pub cause : Cause (length lines) later
