use Rattle.std.proofs.Common.{◌≡◌, ◌++◌, flat_map, take}
use Rattle.same_columns.specs.Differences.{first_by}
use Rattle.same_columns.specs.Ranks.{ranked_view}
use Rattle.same_columns.proofs.compare.add_firsts.Given as goal

abbrev pub invariant-loop-first : goal.invariant-loop-first
invariant-loop-first l = l.found.items ≡ l.initial.found.items ++ flat_map (λ a. first_by l.others (ranked_view a)) (take l.first-index l.firsts)
