use Rattle.std.proofs.Common.{◌≡◌, length, map}
use Rattle.std.specs.List.{list_any}
use Rattle.geoparquet.specs.Sources.{sourced}
use Rattle.geoparquet.specs.Undeclared.{is_bare}
use Rattle.geoparquet.proofs.undeclared.is_one_bare.Given as goal

-- the columns that are left decide
abbrev pub invariant-columns : goal.invariant-columns
invariant-columns l = list_any is_bare (map sourced l.all) ≡ list_any is_bare (map sourced l.left)

abbrev pub decreases-columns : goal.decreases-columns
decreases-columns l = length l.left
