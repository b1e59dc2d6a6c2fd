use Rattle.std.proofs.Common.{◌≡◌, ◌≤◌, take}
use Rattle.std.specs.Prelude.{count_by}
use Rattle.uses.specs.Survey.{is_geometry}
use Rattle.uses.proofs.checker.count_geometries.Given as goal

abbrev pub invariant-loop-column : goal.invariant-loop-column
invariant-loop-column l = (l.count ≡ count_by is_geometry (take l.column-index l.columns)) × (l.count ≤ l.column-index)
