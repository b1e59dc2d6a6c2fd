use Rattle.std.proofs.Common.{◌≡◌, ◌++◌, map, take}
use Rattle.same_columns.specs.declared.difference.Difference.TheVariants.{InBoth}
use Rattle.same_columns.proofs.compare.add_aspects.Given as goal

abbrev pub invariant-loop-aspect : goal.invariant-loop-aspect
invariant-loop-aspect l = l.found.items ≡ l.initial.found.items ++ map (InBoth l.first l.other) (take l.aspect-index l.aspects)
