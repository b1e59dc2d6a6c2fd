use Rattle.std.proofs.Common.{◌≡◌, ◌-◌, []}
use Rattle.arrow_values.specs.View.{texts_of}
use Rattle.record_columns.specs.Texts.{put_entries}
use Rattle.record_columns.proofs.texts.put_entries.Given as goal

-- the entries that are left, put to those so far, are all
abbrev pub invariant-entries : goal.invariant-entries
invariant-entries l =
    put_entries (l.count - l._i) (texts_of l.texts.entries) l.rest ≡ put_entries l.count [] l.bytes
