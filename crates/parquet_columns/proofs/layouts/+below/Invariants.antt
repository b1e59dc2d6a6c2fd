use Rattle.std.proofs.Common.{◌+◌, ◌*◌, length}
use Rattle.parquet_columns.proofs.layouts.+below.Given as goal

-- each call of another looks at less that stands behind, or goes from a list to its group
abbrev pub decreases-below_group : goal.decreases-below_group
decreases-below_group l = 2 * length l.behind.now

abbrev pub decreases-below_list : goal.decreases-below_list
decreases-below_list l = 2 * length l.behind.now

abbrev pub decreases-below_lists : goal.decreases-below_lists
decreases-below_lists l = 2 * length l.behind.now + 1
