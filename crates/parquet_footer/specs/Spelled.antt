-- Texts of a footer that need not be UTF-8: their bytes, and behind how many bytes of the footer they begin.
use Rattle.std.specs.Prelude.{ℕ, ◌-◌, List, length, take, Option, Some, None, Result, Ok, nat_le}
use Rattle.parquet_footer.specs.declared.fault.Fault.{Fault}
use Rattle.parquet_footer.specs.declared.fault.FooterRule.TheVariants.{Length}
use Rattle.parquet_footer.specs.declared.text.FooterText.{FooterText}
use Rattle.parquet_footer.specs.Fault.{kept, ◌>>=◌}
use Rattle.parquet_footer.specs.Wire.{number_at}
use Rattle.parquet_footer.specs.Fields.{Spot, value_of}

pub record Spelled : Type 0 where
  pub bytes : List ℕ
  pub byte : ℕ

abbrev pub spelled : FooterText → Spelled
spelled t = record { bytes = t.bytes.now; byte = t.byte }

-- a length, and so many bytes, in a footer of that size
unfoldable pub spelled_at : ℕ → List ℕ → Result Spelled Fault
spelled_at size bytes = do
  n ← number_at 5 bytes
  _ ← kept (nat_le n.0 (length n.1)) Length bytes
  Ok (record { bytes = take n.0 n.1; byte = size - length n.1 })

-- those in a field, where it is there
unfoldable pub spelled_in : ℕ → Option Spot → Result (Option Spelled) Fault
spelled_in size None = Ok None
spelled_in size (Some p) = do
  bytes ← value_of 8 p
  text ← spelled_at size bytes
  Ok (Some text)
