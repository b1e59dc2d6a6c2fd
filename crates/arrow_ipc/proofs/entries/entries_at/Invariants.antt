use Rattle.std.proofs.Common.{◌≡◌, ◌-◌, ◌≤◌, []}
use Rattle.arrow_ipc.specs.Entries.{entries_in, add_next}
use Rattle.arrow_ipc.specs.Tells.{gather}
use Rattle.arrow_ipc.proofs.Told.{after}
use Rattle.arrow_ipc.proofs.entries.entries_at.Given as goal

-- the entries that are left, after those so far, are all
abbrev pub invariant-entries : goal.invariant-entries
invariant-entries l = record {
  low : l.budget ≤ l.initial.budget;
  so_far : gather (add_next l.bytes l.at.0) [] 0 l.at.1 ≡ after (l.initial.budget - l.budget) (gather (add_next l.bytes l.at.0) (entries_in l.entries) l.i (l.at.1 - l.i));
}
