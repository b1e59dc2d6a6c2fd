-- The slots of a table, with what counts where one is missing.
use Rattle.std.specs.Option.{ok_or, option_map, option_map_or, option_transpose}
use Rattle.std.specs.Prelude.{ℕ, Bool, true, false, List, [], Option, Result, Ok, ◌==◌, if◌then◌else◌}
use Rattle.std.specs.Int.{Width, w8}
use Rattle.arrow_ipc.specs.Fault.{◌>>=◌}
use Rattle.arrow_ipc.specs.Wire.{integer_at, slot_at, target_at, utf8_at, vector_at}
use Rattle.arrow_ipc.specs.declared.fault.IpcFault.{IpcFault}
use Rattle.arrow_ipc.specs.declared.fault.IpcRule.TheVariants.{Missing}
use Rattle.arrow_ipc.specs.declared.wire.Table.{Table}

-- what is read of a place, or what counts where there is none
abbrev pub read_or : {A : Type 0} → A → (ℕ → Result A IpcFault) → Option ℕ → Result A IpcFault
read_or missing read place = option_map_or read place (Ok missing)

-- a number in a slot
unfoldable pub integer_in : List ℕ → Table → ℕ → Width → ℕ → Result ℕ IpcFault
integer_in bytes table i w missing = slot_at bytes table i >>= read_or missing (λ slot. integer_at bytes slot w)

-- a truth value: any byte other than 0 is true, and what is missing is false
unfoldable pub flag_in : List ℕ → Table → ℕ → Result Bool IpcFault
flag_in bytes table i = do
  byte ← integer_in bytes table i w8 0
  Ok (if byte == 0 then false else true)

-- where a slot leads, if the table has it
unfoldable pub led_by : List ℕ → Table → ℕ → Result (Option ℕ) IpcFault
led_by bytes table i = slot_at bytes table i >>= λ slot. option_transpose (option_map (target_at bytes) slot)

unfoldable pub text_in : List ℕ → Table → ℕ → Result (List ℕ) IpcFault
text_in bytes table i = led_by bytes table i >>= read_or [] (utf8_at bytes)

unfoldable pub vector_in : List ℕ → Table → ℕ → Result (Option (ℕ × ℕ)) IpcFault
vector_in bytes table i = led_by bytes table i >>= λ place. option_transpose (option_map (vector_at bytes) place)

-- where a slot leads that the table must have
unfoldable pub table_in : List ℕ → Table → ℕ → Result ℕ IpcFault
table_in bytes table i = led_by bytes table i >>= λ place. ok_or place (record { rule = Missing; at = table.at })
