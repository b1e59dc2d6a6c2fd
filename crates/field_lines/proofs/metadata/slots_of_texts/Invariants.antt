use Rattle.field_lines.proofs.TokenTexts.{SlotsOfTexts}
use Rattle.field_lines.proofs.metadata.slots_of_texts.Given as goal

abbrev pub invariant-loop-key : goal.invariant-loop-key
invariant-loop-key l = SlotsOfTexts l.fn.texts.entries l.slots.entries l.key-iterator
