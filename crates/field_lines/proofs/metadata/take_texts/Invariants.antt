use Rattle.std.proofs.Common.{length}
use Rattle.field_lines.proofs.TokenTexts.{AreTextsUnderWay}
use Rattle.field_lines.proofs.metadata.take_texts.Given as goal

abbrev pub invariant-texts : goal.invariant-texts
invariant-texts l = AreTextsUnderWay l.below l.initial.reader l.reader l.texts.entries

abbrev pub decreases-texts : goal.decreases-texts
decreases-texts l = length l.reader
