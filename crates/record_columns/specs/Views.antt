-- The columns that wait, as contracts see them.
use Rattle.std.specs.Prelude.{ℕ, [], ◌∷◌, ◌++◌, map, take, drop, Result, Ok}
use Rattle.arrow_columns.specs.Column.{column_tree}
use Rattle.arrow_columns.specs.Types.{ColumnTree}
use Rattle.record_wire.specs.Fault.{◌>>=◌}
use Rattle.record_wire.specs.Record.{Structure}
use Rattle.record_wire.specs.Trees as trees
use Rattle.record_wire.specs.Trees.{place_of}
use Rattle.record_wire.specs.declared.fault.Rule.{Rule}
use Rattle.record_columns.specs.Columns.{column_of}
use Rattle.record_columns.specs.declared.waiting.Waiting.{Waiting}

abbrev pub Waits : Type 0
Waits = trees.Waiting ColumnTree

abbrev pub waiting_of : Waiting → Waits
waiting_of w = (map column_tree w.columns.items, w.levels.items)

-- a structure as a column, in place of those from a place on
abbrev pub placed : Structure → Waits → ℕ → Result Waits Rule
placed s w place = do
  c ← column_of s (drop place w.0)
  Ok (take place w.0 ++ c ∷ [], take place w.1 ++ s.level ∷ [])

-- and in place of those that lie in it
abbrev pub put_one : Structure → Waits → Result Waits Rule
put_one s w = place_of s w.1 >>= placed s w
