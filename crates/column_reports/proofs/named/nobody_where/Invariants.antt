use Rattle.std.proofs.Common.{◌≡◌, ◌++◌, length, map}
use Rattle.column_reports.specs.Named.{named_view, nobody_where}
use Rattle.column_reports.proofs.named.nobody_where.Given as goal

-- the columns so far, and those that are left
abbrev pub invariant-columns : goal.invariant-columns
invariant-columns l = map named_view l.all.items ++ nobody_where l.flags (map named_view l.left) ≡ nobody_where l.refuted (map named_view l.named)

abbrev pub decreases-columns : goal.decreases-columns
decreases-columns l = length l.left
