use Rattle.std.proofs.Common.{◌≡◌, drop}
use Rattle.record_wire.specs.Trees.{are_at}
use Rattle.record_wire.proofs.trees.are_at.Given as goal

abbrev pub invariant-loop-one : goal.invariant-loop-one
invariant-loop-one l = are_at l.level l.levels ≡ are_at l.level (drop l.one-index l.levels)
