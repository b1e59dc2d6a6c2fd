-- The end of a file: the length of its footer in four bytes, the lowest first, and PAR1, or PARE where it is encrypted.
use Rattle.std.specs.Prelude.{ℕ, List, take, drop, codes, Result, Ok, Err, ◌==◌, if◌then◌else◌}
use Rattle.std.specs.Int.{w32, from_le_bytes}
use Rattle.parquet_footer.specs.declared.fault.FooterError.{FooterError}
use Rattle.parquet_footer.specs.declared.fault.FooterError.TheVariants.{NotParquet, Encrypted}

abbrev pub word : List ℕ → ℕ
word bytes = from_le_bytes w32 bytes

unfoldable pub length_at : List ℕ → Result ℕ FooterError
length_at tail =
    if word (drop 4 tail) == word (codes "PAR1") then Ok (word (take 4 tail)) else
    if word (drop 4 tail) == word (codes "PARE") then Err Encrypted else Err NotParquet
