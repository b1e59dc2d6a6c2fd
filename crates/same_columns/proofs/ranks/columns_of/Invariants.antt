use Rattle.std.proofs.Common.{◌≡◌, length, map}
use Rattle.same_columns.specs.Compared.{compared}
use Rattle.same_columns.specs.Ranks.{AreNamed, ranked, ranked_behind, ranked_view}
use Rattle.same_columns.proofs.ranks.columns_of.Given as goal

-- the columns so far, by their names too, and behind them those that are left
abbrev pub invariant-columns : goal.invariant-columns
invariant-columns l =
    AreNamed (map ranked_view l.all.items) l.by_name
    × (ranked_behind (map ranked_view l.all.items) (map compared l.left) ≡ ranked (map compared l.reports))

abbrev pub decreases-columns : goal.decreases-columns
decreases-columns l = length l.left
