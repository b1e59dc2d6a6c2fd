-- Types by their tags, with their widths, units and sizes, and what counts where a slot is missing. A unit is 0 for seconds, 1 for
-- milliseconds, 2 for microseconds, 3 for nanoseconds.
use Rattle.std.specs.Prelude.{ℕ, pos, ◌^◌, Bool, ◌||◌, List, Result, Ok, nat_lt, nat_le, ◌==◌, if◌then◌else◌}
use Rattle.std.specs.Int.{w16, w32, cast_signed}
use Rattle.arrow_ipc.specs.Fault.{◌>>=◌, breaks}
use Rattle.arrow_ipc.specs.Slots.{flag_in, integer_in}
use Rattle.arrow_ipc.specs.declared.fault.IpcFault.{IpcFault}
use Rattle.arrow_ipc.specs.declared.fault.IpcRule.TheVariants.{Parameter}
use Rattle.arrow_values.specs.declared.tree.DataType.{DataType}
use Rattle.arrow_values.specs.declared.tree.DataType.TheVariants.{Null, Boolean, Int8, Int16, Int32, Int64, UInt8, UInt16, UInt32, UInt64, Float16, Float32, Float64, Date32, Date64, Binary, LargeBinary, BinaryView, Utf8, LargeUtf8, Utf8View}
use Rattle.arrow_values.specs.declared.tree.UnionMode.TheVariants.{Sparse, Dense}
use Rattle.arrow_columns.specs.declared.nested.ListForm.TheVariants.{Small, Large, Fixed}
use Rattle.arrow_kinds.specs.declared.kind.Named as named
use Rattle.arrow_kinds.specs.declared.kind.Named.TheVariants.{Decimal, Time, Timestamp, Duration, Interval, FixedSizeBinary}
use Rattle.arrow_ipc.specs.declared.wire.Table.{Table}
use Rattle.arrow_kinds.specs.declared.kind.Kind.{Kind}
use Rattle.arrow_kinds.specs.declared.kind.Kind.TheVariants.{Plain, Named, List as ListOf, Struct, Union, Map, RunEndEncoded, ListView, LargeListView}

unfoldable pub int_at : List ℕ → Table → Result DataType IpcFault
int_at bytes table = do
  width ← integer_in bytes table 0 w32 0
  signed ← flag_in bytes table 1
  if width == 8 then Ok (if signed then Int8 else UInt8) else
      if width == 16 then Ok (if signed then Int16 else UInt16) else
      if width == 32 then Ok (if signed then Int32 else UInt32) else
      if width == 64 then Ok (if signed then Int64 else UInt64) else breaks Parameter table.at

-- a number in two's complement is one of a signed byte
abbrev pub fits_byte : ℕ → Bool
fits_byte n = nat_lt n 128 || nat_le 0xffff_ff80 n

unfoldable pub decimal_at : List ℕ → Table → Result named.Named IpcFault
decimal_at bytes table = do
  precision ← integer_in bytes table 0 w32 0
  scale ← integer_in bytes table 1 w32 0
  width ← integer_in bytes table 2 w32 128
  if nat_lt precision 128 then (if fits_byte scale then (
      if width == 32 then Ok (Decimal width precision (cast_signed w32 scale)) else
      if width == 64 then Ok (Decimal width precision (cast_signed w32 scale)) else
      if width == 128 then Ok (Decimal width precision (cast_signed w32 scale)) else
      if width == 256 then Ok (Decimal width precision (cast_signed w32 scale)) else breaks Parameter table.at) else breaks Parameter table.at) else breaks Parameter table.at

unfoldable pub time_at : List ℕ → Table → ℕ → Result named.Named IpcFault
time_at bytes table unit = if nat_lt unit 4 then (do
  width ← integer_in bytes table 1 w32 32
  if width == (if nat_lt unit 2 then 32 else 64) then Ok (Time unit) else breaks Parameter table.at) else breaks Parameter table.at

-- the number in slot 0: a unit, a mode or a size
unfoldable pub number_at : List ℕ → ℕ → Table → Result ℕ IpcFault
number_at bytes tag table =
    if tag == 3 then integer_in bytes table 0 w16 0 else
    if tag == 8 then integer_in bytes table 0 w16 1 else
    if tag == 9 then integer_in bytes table 0 w16 1 else
    if tag == 10 then integer_in bytes table 0 w16 0 else
    if tag == 11 then integer_in bytes table 0 w16 0 else
    if tag == 14 then integer_in bytes table 0 w16 0 else
    if tag == 15 then integer_in bytes table 0 w32 0 else
    if tag == 16 then integer_in bytes table 0 w32 0 else
    if tag == 18 then integer_in bytes table 0 w16 1 else Ok 0

abbrev pub below : Table → ℕ → ℕ → Kind → Result Kind IpcFault
below table number bound kind = if nat_lt number bound then Ok kind else breaks Parameter table.at

-- a type by its tag, which is 1 to 26
unfoldable pub kind_at : List ℕ → ℕ → Table → Result Kind IpcFault
kind_at bytes tag table = do
  number ← number_at bytes tag table
  if tag == 1 then Ok (Plain Null) else
      if tag == 2 then (int_at bytes table >>= λ t. Ok (Plain t)) else
      if tag == 3 then (if number == 0 then Ok (Plain Float16) else if number == 1 then Ok (Plain Float32) else if number == 2 then Ok (Plain Float64) else breaks Parameter table.at) else
      if tag == 4 then Ok (Plain Binary) else
      if tag == 5 then Ok (Plain Utf8) else
      if tag == 6 then Ok (Plain Boolean) else
      if tag == 7 then (decimal_at bytes table >>= λ t. Ok (Named t)) else
      if tag == 8 then (if number == 0 then Ok (Plain Date32) else if number == 1 then Ok (Plain Date64) else breaks Parameter table.at) else
      if tag == 9 then (time_at bytes table number >>= λ t. Ok (Named t)) else
      if tag == 10 then below table number 4 (Named (Timestamp number)) else
      if tag == 11 then below table number 3 (Named (Interval number)) else
      if tag == 12 then Ok (ListOf Small) else
      if tag == 13 then Ok Struct else
      if tag == 14 then (if number == 0 then Ok (Union Sparse) else if number == 1 then Ok (Union Dense) else breaks Parameter table.at) else
      if tag == 15 then below table number (2 ^ 31) (Named (FixedSizeBinary (pos number))) else
      if tag == 16 then below table number (2 ^ 31) (ListOf (Fixed (pos number))) else
      if tag == 17 then Ok Map else
      if tag == 18 then below table number 4 (Named (Duration number)) else
      if tag == 19 then Ok (Plain LargeBinary) else
      if tag == 20 then Ok (Plain LargeUtf8) else
      if tag == 21 then Ok (ListOf Large) else
      if tag == 22 then Ok RunEndEncoded else
      if tag == 23 then Ok (Plain BinaryView) else
      if tag == 24 then Ok (Plain Utf8View) else
      if tag == 25 then Ok ListView else
      if tag == 26 then Ok LargeListView else breaks Parameter table.at
