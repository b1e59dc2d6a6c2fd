use Rattle.std.proofs.Common.{◌≡◌, ◌++◌, flat_map}
use Rattle.column_reports.specs.Gathered.{if_malformed, if_empty_beside}
use Rattle.column_reports.proofs.gathered.joined.Given as goal

-- what is told so far: of a CRS that is no PROJJSON, and of one that is an empty text
abbrev pub invariant-loop-warning : goal.invariant-loop-warning
invariant-loop-warning l = record {
  before : l.all.items ≡ l.initial.all.items ++ flat_map if_malformed l.yielded;
  empty : l.empties.items ≡ flat_map if_empty_beside l.yielded;
}
