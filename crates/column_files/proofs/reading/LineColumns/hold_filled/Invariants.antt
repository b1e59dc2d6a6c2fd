-- blank lines alone are passed over
use Rattle.std.proofs.Common.{◌≡◌, []}
use Rattle.column_files.specs.Reading.{passed, has_item, has_mark, text_left, PassesLines}
use Rattle.column_files.proofs.reading.LineColumns.hold_filled.Given as goal

abbrev pub invariant-loop : goal.invariant-loop
invariant-loop g l =
    (has_item l.self ≡ has_item l.initial.self)
    × (has_mark l.self ≡ has_mark l.initial.self)
    × PassesLines (passed l.initial.self) (passed l.self) (text_left g.R.Read.remaining l.initial.self) (text_left g.R.Read.remaining l.self) []
