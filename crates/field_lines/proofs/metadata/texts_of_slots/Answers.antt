use Rattle.std.proofs.Common.{None, refl, sym}
use Rattle.field_lines.proofs.TokenTexts.{put_starts, put_next, put_one, put_all}
use Rattle.field_lines.proofs.metadata.texts_of_slots.Goals as goal

pub loop-key-init : goal.loop-key-init
loop-key-init c = let all = c.into_iter-key-iterator.ensures.into_iter_gives in put_starts all.0 c.new-texts.ensures.empty all.5

pub loop-key-preserved : goal.loop-key-preserved
loop-key-preserved c = put_one _ c.loop-key.invariant c.in-Some.ensures.steps c.in_ok-insert.ensures.entries (rw c.in-Some-slot.is)

pub returns-in_default : goal.returns-in_default
returns-in_default c = sym (put_next {o = None} c.loop-key.invariant c.in-Some.ensures.steps (rw c.in_default.is))

pub returns : goal.returns
returns c = put_all c.loop-key.invariant c.in-None.ensures.steps.0 refl
