use Rattle.std.proofs.Common.{◌≡◌, ◌∷◌, map, take}
use Rattle.file_check.specs.Table.{line_of, rooms_of}
use Rattle.file_check.proofs.table.rooms_of.Given as goal

abbrev pub invariant-loop-row : goal.invariant-loop-row
invariant-loop-row l = l.rooms ≡ rooms_of (line_of l.head ∷ map line_of (take l.row-index l.rows))
