use Rattle.std.proofs.Common.{◌≡◌, ◌++◌, flat_map, map, take}
use Rattle.column_reports.specs.Weights.{weighing}
use Rattle.same_columns.specs.Unlike.{unlike_of, unlike_view}
use Rattle.same_columns.proofs.unlike.add_all.Given as goal

abbrev pub invariant-found : goal.invariant-found
invariant-found l =
    map unlike_view l.unlike.items
    ≡ map unlike_view l.initial.unlike.items ++ flat_map (unlike_of (weighing l.weights) l.first l.last) (take l.difference-index l.found)
