use Rattle.geoarrow_layout.proofs.Terms.{tree, AreLevels, ◌-◌}
use Rattle.geoarrow_layout.proofs.summary.below_lists.Given as goal

abbrev pub invariant-loop-below : goal.invariant-loop-below
invariant-loop-below l = AreLevels l.below.width l.below.levels (tree l.data_type) (tree l.below.rest.now)

abbrev pub decreases-loop-below : goal.decreases-loop-below
decreases-loop-below l = 3 - l.below.levels
