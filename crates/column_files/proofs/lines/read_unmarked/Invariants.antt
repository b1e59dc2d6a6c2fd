-- the lines that were read, and what is kept of what they give
use Rattle.std.proofs.Common.{◌≡◌, ◌+◌, ◌≤◌, ℕ, List, length}
use Rattle.column_files.specs.Lines.{LinesTo}
use Rattle.column_files.specs.LineItems.{LineItem, AreItems, IsOfItems}
use Rattle.column_files.proofs.lines.read_unmarked.Given as goal

abbrev pub invariant-loop-rest : goal.invariant-loop-rest
invariant-loop-rest l =
    (l.count + length l.rest ≤ length l.initial.rest)
    × (lines : List (List ℕ)) × (items : List LineItem) × (length lines ≡ l.count) × LinesTo l.initial.rest lines l.rest × AreItems 0 lines items × IsOfItems items l.read

abbrev pub decreases-loop-rest : goal.decreases-loop-rest
decreases-loop-rest l = length l.rest
