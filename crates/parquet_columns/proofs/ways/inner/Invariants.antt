use Rattle.std.proofs.Common.{◌≡◌, length}
use Rattle.arrow_columns.specs.Below.{ref_tree}
use Rattle.parquet_columns.specs.Ways.{inner}
use Rattle.parquet_columns.proofs.ways.inner.Given as goal

-- what is left of the way leads on
abbrev pub invariant-places : goal.invariant-places
invariant-places l = inner (ref_tree l.there) l.left ≡ inner (ref_tree l.any) l.way

abbrev pub decreases-places : goal.decreases-places
decreases-places l = length l.left
