-- How many bytes of the begin and of the end of a file are wanted for its report (docs/FORMAT.md, 2.7).
use Rattle.std.specs.Prelude.{ℕ, ◌+◌, ◌-◌, ◌^◌, min, max, nat_le, nat_lt, List, length, take, Option, None, Some, Result, Ok, Err, if◌then◌else◌}
use Rattle.parquet_footer.specs.Tail.{length_at}
use Rattle.parquet_footer.specs.declared.fault.FooterError.{FooterError}
use Rattle.column_files.specs.Forms.{head_bytes, head_form}
use Rattle.column_files.specs.ForeignFound.{looked_at}
use Rattle.column_files.specs.Endings.{size_in, last, is_arrow_end, message_end}
use Rattle.column_files.specs.declared.form.Form.{Form}
use Rattle.column_files.specs.declared.form.Form.TheVariants.{ArrowFile, ArrowStream, Parquet, Lines, Foreign}
use Rattle.wanted_ranges.specs.declared.ranges.Ranges.{Ranges}

-- no more than the file has, where its size is known
abbrev pub capped : Option ℕ → ℕ → ℕ
capped (Some size) n = min n size
capped None n = n

-- all bytes, however many there are
abbrev pub all : ℕ
all = 2 ^ 64 - 1

-- ---- the begin of a file

-- an Arrow or Parquet file is read by its end, or all of it, where it is not known where it ends
abbrev pub begin_of_ended : Option ℕ → ℕ
begin_of_ended (Some size) = 0
begin_of_ended None = all

-- by the format: the first message of a stream, what tells what is found in a file that is not read, and all lines
abbrev pub begin_of : Form → Option ℕ → List ℕ → ℕ
begin_of ArrowStream size head = message_end head
begin_of (Foreign foreign) size head = looked_at foreign
begin_of Lines size head = all
begin_of ArrowFile size head = begin_of_ended size
begin_of Parquet size head = begin_of_ended size

-- ---- the end of a file that has a footer

-- the size of the footer that is told there, where the magic stands behind it; else 0
abbrev pub arrow_told : List ℕ → ℕ
arrow_told end = if is_arrow_end end then size_in (last 10 end) else 0

abbrev pub told_by : Result ℕ FooterError → ℕ
told_by (Ok told) = told
told_by (Err error) = 0

abbrev pub parquet_told : List ℕ → ℕ
parquet_told end = if nat_le 8 (length end) then told_by (length_at (last 8 end)) else 0

-- a size that is no greater than that; else 0
abbrev pub at_most : ℕ → ℕ → ℕ
at_most n size = if nat_le size n then size else 0

-- by the format: the footer, where there is room for it between the head of the file and its size, and behind it the size and the magic; where there is none,
-- the file is refused by these alone
abbrev pub end_by : Form → ℕ → List ℕ → ℕ
end_by ArrowFile size tail = 10 + at_most (size - 10 - 8) (arrow_told tail)
end_by Parquet size tail = 8 + at_most (size - 8 - 4) (parquet_told tail)
end_by form size tail = 0

-- no more than stands behind the first bytes that are given
abbrev pub end_of : Form → Option ℕ → List ℕ → List ℕ → ℕ
end_of form (Some size) head tail = min (end_by form size tail) (size - length head)
end_of form None head tail = 0

-- ---- both

abbrev pub wanted_by : Form → List ℕ → List ℕ → Option ℕ → Ranges
wanted_by form head tail size = record { head = capped size (max (begin_of form size head) head_bytes); tail = end_of form size head tail }

-- of a file of that size, or one that is not known, by its first and last bytes: first those that tell the format
abbrev pub wanted : List ℕ → List ℕ → Option ℕ → Ranges
wanted head tail size =
    if nat_lt (length head) (capped size head_bytes) then record { head = capped size head_bytes; tail = 0 } else wanted_by (head_form (take head_bytes head)) head tail size
