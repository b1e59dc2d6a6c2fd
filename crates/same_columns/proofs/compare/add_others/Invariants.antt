use Rattle.std.proofs.Common.{◌≡◌, ◌++◌, List, map, take}
use Rattle.same_columns.specs.Differences.{AreOfOthers}
use Rattle.same_columns.specs.Ranks.{AreNamed, Placed, ranked_view}
use Rattle.same_columns.specs.declared.difference.Difference.{Difference}
use Rattle.same_columns.proofs.compare.add_others.Given as goal

abbrev pub invariant-others : goal.invariant-others
invariant-others l =
    (xs : List Placed) → AreNamed xs l.firsts
    → (ds : List Difference) × AreOfOthers xs (map ranked_view (take l.other-index l.others)) ds × (l.found.items ≡ l.initial.found.items ++ ds)
