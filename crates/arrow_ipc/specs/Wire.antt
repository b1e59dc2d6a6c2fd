-- FlatBuffers: what stands at a position of a message. Nothing stands past its end, and a number stands at a multiple of its
-- size.
use Rattle.std.specs.Prelude.{ℕ, ◌+◌, ◌-◌, ◌*◌, ◌^◌, ◌%◌, ◌≤◌, ◌&&◌, List, [], ◌∷◌, length, take, drop, Option, Some, None, Result, Ok, nat_lt, nat_le, ◌==◌, if◌then◌else◌}
use Rattle.std.specs.Int.{Width, w8, w16, w32, w64, byte_len, from_le_bytes}
use Rattle.std.specs.Str.{is_utf8}
use Rattle.arrow_ipc.specs.Fault.{◌>>=◌, breaks}
use Rattle.arrow_ipc.specs.declared.fault.IpcFault.{IpcFault}
use Rattle.arrow_ipc.specs.declared.fault.IpcRule.{IpcRule}
use Rattle.arrow_ipc.specs.declared.fault.IpcRule.TheVariants.{Number, Offset, Vtable, Slot, Text, Utf8, Vector}
use Rattle.arrow_ipc.specs.declared.wire.Table.{Table}

-- the width of a number of 1, 2, 4 or 8 bytes
abbrev pub width : ℕ → Width
width size = if size == 1 then w8 else if size == 2 then w16 else if size == 4 then w32 else w64

-- the number of a width whose bytes begin there, the least byte first
unfoldable pub integer_at : List ℕ → ℕ → Width → Result ℕ IpcFault
integer_at bytes at w =
    if (at % byte_len w == 0) && nat_le (byte_len w) (length (drop at bytes)) then Ok (from_le_bytes w (take (byte_len w) (drop at bytes))) else breaks Number at

-- the position so many bytes on, which is at most the end
unfoldable pub ahead : IpcRule → List ℕ → ℕ → ℕ → Result ℕ IpcFault
ahead rule bytes at by = if nat_le (at + by) (length bytes) then Ok (at + by) else breaks rule at

-- where the vtable of a table is: the table begins with how far it is back, in two's complement
unfoldable pub vtable_at : List ℕ → ℕ → Result ℕ IpcFault
vtable_at bytes table = do
  back ← integer_at bytes table w32
  if nat_lt back (2 ^ 31) then (if nat_le back table then Ok (table - back) else breaks Vtable table) else ahead Vtable bytes table (2 ^ 32 - back)

-- a table that is opened: its vtable, which begins with its own size in bytes, lies before the end
unfoldable pub opened_at : List ℕ → ℕ → Result Table IpcFault
opened_at bytes table = do
  vtable ← vtable_at bytes table
  size ← integer_at bytes vtable w16
  end ← ahead Vtable bytes vtable size
  if size % 2 == 0 then Ok (record { at = table; vtable = vtable; size = size }) else breaks Vtable vtable

abbrev pub IsOpen : List ℕ → Table → Type 0
IsOpen bytes table = table.vtable + table.size ≤ length bytes

-- where slot i of an opened table is, or None where the table does not have it: behind its size and the size of the table, the vtable
-- has for each slot how far it is from the table's begin, 0 where it is missing; slots past the size are missing
unfoldable pub slot_at : List ℕ → Table → ℕ → Result (Option ℕ) IpcFault
slot_at bytes table i = if nat_lt table.size (6 + 2 * i) then Ok None else (do
  entry ← ahead Vtable bytes table.vtable (4 + 2 * i)
  far ← integer_at bytes entry w16
  if far == 0 then Ok None else (do
    slot ← ahead Slot bytes table.at far
    Ok (Some slot)))

-- where the offset at a position leads, always on
unfoldable pub target_at : List ℕ → ℕ → Result ℕ IpcFault
target_at bytes at = do
  far ← integer_at bytes at w32
  if far == 0 then breaks Offset at else ahead Offset bytes at far

abbrev pub ends_in_nul : ℕ → List ℕ → List ℕ → Result (List ℕ) IpcFault
ends_in_nul at text [] = breaks Text at
ends_in_nul at text (b ∷ rest) = if b == 0 then Ok text else breaks Text at

-- the bytes of a text: their count, the bytes, and a NUL that is not counted
unfoldable pub text_at : List ℕ → ℕ → Result (List ℕ) IpcFault
text_at bytes at = do
  count ← integer_at bytes at w32
  start ← ahead Text bytes at 4
  end ← ahead Text bytes start count
  ends_in_nul at (take count (drop start bytes)) (drop end bytes)

-- a text in UTF-8
unfoldable pub utf8_at : List ℕ → ℕ → Result (List ℕ) IpcFault
utf8_at bytes at = do
  text ← text_at bytes at
  if is_utf8 text then Ok text else breaks Utf8 at

-- where the elements of a vector begin, of four bytes each, and how many they are
unfoldable pub vector_at : List ℕ → ℕ → Result (ℕ × ℕ) IpcFault
vector_at bytes at = do
  count ← integer_at bytes at w32
  start ← ahead Vector bytes at 4
  end ← ahead Vector bytes start (4 * count)
  Ok (start, count)
