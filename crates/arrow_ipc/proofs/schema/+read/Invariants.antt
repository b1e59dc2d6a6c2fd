use Rattle.std.proofs.Common.{◌≡◌, ◌+◌, ◌*◌, ◌-◌, ◌≤◌, [], map}
use Rattle.arrow_columns.specs.Column.{column_tree}
use Rattle.arrow_ipc.specs.Columns.{put_column, column_at}
use Rattle.arrow_ipc.specs.Tells.{gather}
use Rattle.arrow_ipc.proofs.Told.{after}
use Rattle.arrow_ipc.proofs.schema.+read.Given as goal

abbrev pub decreases-column : goal.decreases-column
decreases-column l = 2 * l.depth

abbrev pub decreases-read_columns : goal.decreases-read_columns
decreases-read_columns l = 2 * l.depth + 1

-- the columns that are left, after those so far, are all
abbrev pub invariant-read_columns-columns : goal.invariant-read_columns-columns
invariant-read_columns-columns l = record {
  low : l.budget ≤ l.initial.budget;
  so_far : gather (put_column (column_at l.depth l.bytes) l.offsets.0) [] 0 l.offsets.1
      ≡ after (l.initial.budget - l.budget) (gather (put_column (column_at l.depth l.bytes) l.offsets.0) (map column_tree l.found.items) l.i (l.offsets.1 - l.i));
}
