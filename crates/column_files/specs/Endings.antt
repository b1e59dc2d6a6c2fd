-- The end of a file that has a footer, and that of the first message of a stream (docs/FORMAT.md, 2.8): the size that is told there, or why the file is
-- refused by its end.
use Rattle.std.specs.Prelude.{ℕ, ◌+◌, ◌-◌, ◌^◌, min, Bool, ◌&&◌, ◌||◌, ◌==◌, nat_le, nat_lt, List, [], ◌∷◌, ◌++◌, length, drop, codes, decimal, string_bytes, Option, None, Some, Result, Ok, Err, if◌then◌else◌}
use Rattle.std.specs.Int.{w32, from_le_bytes}
use Rattle.std.specs.Str.{bytes_eq}
use Rattle.hex.specs.Hex.{encode_lower}
use Rattle.arrow_values.specs.Tree.{Text}
use Rattle.parquet_footer.specs.Tail.{length_at}
use Rattle.parquet_footer.specs.declared.fault.FooterError.{FooterError}
use Rattle.parquet_footer.specs.declared.fault.FooterError.TheVariants.{Encrypted as EncryptedFooter}
use Rattle.column_files.specs.declared.ending.EndRule.{EndRule}
use Rattle.column_files.specs.declared.ending.EndRule.TheVariants.{Truncated, FooterLength, Encrypted}
use Rattle.column_files.specs.declared.ending.EndFault.{EndFault}
use Rattle.column_files.specs.declared.ending.Ending.{Ending}
use Rattle.column_files.specs.declared.ending.Ending.TheVariants.{Arrow, Parquet}

-- ---- sizes

-- the number in the first four bytes, the lowest first; 0 where there are fewer
abbrev pub size_in : List ℕ → ℕ
size_in (a ∷ b ∷ c ∷ d ∷ rest) = from_le_bytes w32 (a ∷ b ∷ c ∷ d ∷ [])
size_in _ = 0

-- the last n bytes
abbrev pub last : ℕ → List ℕ → List ℕ
last n bytes = drop (length bytes - n) bytes

-- how many bytes a file has, by its end and by how many stand before that; no number is greater than `u64::MAX`
abbrev pub file_size : ℕ → List ℕ → ℕ
file_size start end = min (start + length end) (2 ^ 64 - 1)

-- ---- why a file is refused by its end: the rule, the byte of the file, what stands there and what is expected

pub record End : Type 0 where
  pub rule : EndRule
  pub byte : ℕ
  pub found : Text
  pub expected : Text

abbrev pub end_of : EndFault → End
end_of f = record { rule = f.rule; byte = f.byte; found = string_bytes f.found; expected = string_bytes f.expected }

-- how many bytes stand before the footer at least, its file's head; and how many behind it, its size and the magic
abbrev pub head_of : Ending → ℕ
head_of Arrow = 8
head_of Parquet = 4

abbrev pub tail_of : Ending → ℕ
tail_of Arrow = 10
tail_of Parquet = 8

abbrev pub magic_words : Ending → Text
magic_words Arrow = codes "ARROW1 at the end"
magic_words Parquet = codes "PAR1 at the end"

-- there is no magic: the last eight bytes, at the end of the file
abbrev pub cut : Ending → ℕ → List ℕ → End
cut e size end = record { rule = Truncated; byte = size; found = encode_lower (last 8 end); expected = magic_words e }

-- the footer is encrypted, as its magic says
abbrev pub encrypted : ℕ → End
encrypted size = record { rule = Encrypted; byte = size - 4; found = codes "PARE"; expected = codes "PAR1" }

-- the greatest size of a footer in a file of that size
abbrev pub most : Ending → ℕ → ℕ
most e size = size - tail_of e - head_of e

abbrev pub most_words : ℕ → Text
most_words n = if n == 0 then codes "a footer before its size" else codes "1 to " ++ decimal n

-- a size of no footer, where it stands
abbrev pub wrong_size : Ending → ℕ → ℕ → End
wrong_size e size told = record { rule = FooterLength; byte = size - tail_of e; found = decimal told; expected = most_words (most e size) }

-- the footer is some bytes between the head and its size, and stands in these last bytes of the file
abbrev pub is_size : Ending → ℕ → List ℕ → ℕ → Bool
is_size e size end told = nat_lt 0 told && nat_le told (most e size) && nat_le told (length end - tail_of e)

abbrev pub sized : Ending → ℕ → List ℕ → ℕ → Result ℕ End
sized e size end told = if is_size e size end told then Ok told else Err (wrong_size e size told)

-- ---- an Arrow file: the footer's size in four bytes and `ARROW1`

abbrev pub is_arrow_end : List ℕ → Bool
is_arrow_end end = nat_le 10 (length end) && bytes_eq (drop 4 (last 10 end)) (codes "ARROW1")

abbrev pub arrow_footer_size : ℕ → List ℕ → Result ℕ End
arrow_footer_size size end = if is_arrow_end end then sized Arrow size end (size_in (last 10 end)) else Err (cut Arrow size end)

-- ---- a Parquet file: the footer's size in four bytes, and `PAR1` or `PARE`

abbrev pub parquet_end : ℕ → List ℕ → FooterError → End
parquet_end size end EncryptedFooter = encrypted size
parquet_end size end error = cut Parquet size end

abbrev pub parquet_by : ℕ → List ℕ → Result ℕ FooterError → Result ℕ End
parquet_by size end (Ok told) = sized Parquet size end told
parquet_by size end (Err error) = Err (parquet_end size end error)

abbrev pub parquet_footer_size : ℕ → List ℕ → Result ℕ End
parquet_footer_size size end = if nat_le 8 (length end) then parquet_by size end (length_at (last 8 end)) else Err (cut Parquet size end)

-- ---- a stream: the size of its first message, which may have four bytes 255 before it

abbrev pub is_marked_stream : List ℕ → Bool
is_marked_stream bytes = size_in bytes == 0xffff_ffff

abbrev pub message_begin : List ℕ → ℕ
message_begin bytes = if is_marked_stream bytes then 8 else 4

abbrev pub message_size : List ℕ → ℕ
message_size bytes = if is_marked_stream bytes then size_in (drop 4 bytes) else size_in bytes

abbrev pub message_end : List ℕ → ℕ
message_end bytes = message_begin bytes + message_size bytes

abbrev pub bytes_words : ℕ → Text
bytes_words n = decimal n ++ (if n == 1 then codes " byte" else codes " bytes")

-- the message, or its size, has fewer bytes than it is to have, up to the end
abbrev pub cut_at : ℕ → ℕ → List ℕ → End
cut_at at asked bytes = record { rule = Truncated; byte = length bytes; found = bytes_words (length bytes - at); expected = bytes_words asked }

abbrev pub cut_message : List ℕ → End
cut_message bytes = if nat_le (message_begin bytes) (length bytes) then cut_at (message_begin bytes) (message_size bytes) bytes else cut_at (message_begin bytes - 4) 4 bytes
