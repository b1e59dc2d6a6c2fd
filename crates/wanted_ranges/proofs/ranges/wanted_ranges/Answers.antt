use Rattle.std.proofs.Common.{sym, subst, arith}
use Rattle.wanted_ranges.specs.Enough.{IsEnough}
use Rattle.wanted_ranges.proofs.Bounds.{IsWithin, wanted_within}
use Rattle.wanted_ranges.proofs.Covered.{is_enough}
use Rattle.wanted_ranges.proofs.ranges.wanted_ranges.Goals as goal

pub returns-clause-within : goal.returns-clause-within
returns-clause-within c =
    let head = c.args.head.now in
    subst (IsWithin head c.args.size) (sym c.wanted.ensures.is) (wanted_within head c.args.tail.now c.args.size)

pub returns-clause-enough : goal.returns-clause-enough
returns-clause-enough c =
    let head = c.args.head.now in
    let tail = c.args.tail.now in
    subst (IsEnough head tail c.args.size) (sym c.wanted.ensures.is) (is_enough head tail c.args.size (omega arith) c.wanted.ensures.size)
