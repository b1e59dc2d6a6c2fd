use Rattle.std.proofs.Common.{◌≡◌, ◌-◌, []}
use Rattle.record_wire.specs.Trees.{steps, put_next}
use Rattle.record_columns.specs.Columns.{column_of}
use Rattle.record_columns.specs.Views.{waiting_of}
use Rattle.record_columns.proofs.columns.put_all.Given as goal

-- the structures that are left, put to the columns so far, are all
abbrev pub invariant-structures : goal.invariant-structures
invariant-structures l =
    steps (put_next column_of) (l.count - l._i) (waiting_of l.waiting) l.rest
    ≡ steps (put_next column_of) l.count ([], []) l.bytes
