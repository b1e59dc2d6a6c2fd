use Rattle.std.proofs.Common.{◌≡◌, ◌-◌, ◌≤◌, [], map}
use Rattle.arrow_ipc.specs.Entries.{entries_in, add_next_column}
use Rattle.arrow_ipc.specs.Tells.{gather}
use Rattle.arrow_ipc.proofs.Told.{after}
use Rattle.arrow_ipc.proofs.entries.columns_entries.Given as goal

-- the columns that are left, after those so far, are all
abbrev pub invariant-columns : goal.invariant-columns
invariant-columns l = record {
  low : l.budget ≤ l.initial.budget;
  so_far : gather (add_next_column l.bytes l.at.0) [] 0 l.at.1 ≡ after (l.initial.budget - l.budget) (gather (add_next_column l.bytes l.at.0) (map entries_in l.columns.items) l.i (l.at.1 - l.i));
}
