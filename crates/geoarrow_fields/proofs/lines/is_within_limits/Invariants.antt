use Rattle.std.proofs.Common.{◌≤◌, length}
use Rattle.geoarrow_fields.proofs.Terms.{IsAt, Stops, max_lines}
use Rattle.geoarrow_fields.proofs.lines.is_within_limits.Given as goal

abbrev pub invariant-loop-at : goal.invariant-loop-at
invariant-loop-at l = Stops (IsAt l.count l.rest) l.initial.rest × (l.count ≤ max_lines)

abbrev pub decreases-loop-at : goal.decreases-loop-at
decreases-loop-at l = length l.rest
