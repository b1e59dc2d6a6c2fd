use Rattle.std.proofs.Common.{◌≡◌, ◌++◌, length, map}
use Rattle.arrow_columns.specs.Below.{ref_tree}
use Rattle.parquet_columns.specs.Ways.{names_to}
use Rattle.parquet_columns.proofs.ways.names_to.Given as goal

-- what is left of the way leads on, with the names so far before it
abbrev pub invariant-places : goal.invariant-places
invariant-places l = map (λ n. n.now) l.names.items ++ names_to (ref_tree l.there) l.left ≡ names_to (ref_tree l.any) l.way

abbrev pub decreases-places : goal.decreases-places
decreases-places l = length l.left
