-- Which column of a schema a record is in, by how many bytes are left where it begins (docs/FORMAT.md, 2.8 and 6).
use Rattle.std.specs.Prelude.{ℕ, zero, suc, ◌+◌, nat_le, ◌==◌, List, length, drop, Result, Ok, Err, if◌then◌else◌}
use Rattle.column_files.specs.declared.refusal.Place.{Place}
use Rattle.column_files.specs.declared.refusal.Place.TheVariants.{File, Column}
use Rattle.record_wire.specs.Fault.{◌>>=◌, within}
use Rattle.record_wire.specs.Record.{number_at}
use Rattle.record_wire.specs.Trees.{head_at}
use Rattle.record_wire.specs.declared.fault.Fault.{Fault}
use Rattle.record_wire.specs.declared.fault.Rule.{Rule}

-- the level of the record at the front of the bytes, and the bytes behind it
unfoldable pub level_at : List ℕ → Result (ℕ × List ℕ) Rule
level_at bytes = do
  size ← number_at bytes
  level ← number_at (drop 16 bytes)
  Ok (level.0, drop size.0 bytes)

-- a record is in the column behind so many, unless it is that of the schema itself
abbrev pub place_by : ℕ → ℕ → Place
place_by zero before = File
place_by (suc level) before = Column before

-- how many columns stand before the next record, and its bytes; or the column, where no more bytes are left than are looked for
abbrev pub step_by : ℕ → ℕ → ℕ → Result (ℕ × List ℕ) Rule → Result (ℕ × List ℕ) Place
step_by left before here (Ok x) =
    if nat_le here left then Err (place_by x.0 before) else Ok ((if x.0 == 1 then before + 1 else before), x.1)
step_by left before here (Err rule) = Err File

unfoldable pub step : ℕ → ℕ → List ℕ → Result (ℕ × List ℕ) Place
step left before bytes = step_by left before (length bytes) (level_at bytes)

-- of so many records the column of the one at which so many bytes are left
abbrev pub found : Result (ℕ × List ℕ) Place → (ℕ → List ℕ → Place) → Place
found (Ok x) next = next x.0 x.1
found (Err place) next = place

unfoldable pub place_from : ℕ → ℕ → ℕ → List ℕ → Place
place_from zero left before bytes = File
place_from (suc n) left before bytes = found (step left before bytes) (λ more rest. place_from n left more rest)

-- of all records
abbrev pub place_of : ℕ → Result (ℕ × List ℕ) Fault → Place
place_of left (Ok head) = place_from head.0 left 0 head.1
place_of left (Err fault) = File

abbrev pub place_at : List ℕ → ℕ → Place
place_at records left = place_of left (within records (head_at records))
