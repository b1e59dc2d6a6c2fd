use Rattle.std.proofs.Common.{length}
use Rattle.field_lines.proofs.TokenTexts.{AreSlotsUnderWay}
use Rattle.field_lines.proofs.metadata.take_slots.Given as goal

abbrev pub invariant-slots : goal.invariant-slots
invariant-slots l = AreSlotsUnderWay l.depth l.initial.reader l.reader l.initial.slots.entries l.slots.entries

abbrev pub decreases-slots : goal.decreases-slots
decreases-slots l = length l.reader
