use Rattle.field_lines.proofs.TokenTexts.{TextsOfSlots}
use Rattle.field_lines.proofs.metadata.texts_of_slots.Given as goal

abbrev pub invariant-loop-key : goal.invariant-loop-key
invariant-loop-key l = TextsOfSlots l.fn.slots.entries l.texts.entries l.key-iterator
