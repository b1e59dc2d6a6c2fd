use Rattle.std.proofs.Common.{refl}
use Rattle.field_lines.proofs.TokenTexts.{put_starts, put_one, put_all}
use Rattle.field_lines.proofs.metadata.slots_of_texts.Goals as goal

pub loop-key-init : goal.loop-key-init
loop-key-init c = let all = c.into_iter-key-iterator.ensures.into_iter_gives in put_starts all.0 c.new-slots.ensures.empty all.5

pub loop-key-preserved : goal.loop-key-preserved
loop-key-preserved c = put_one _ c.loop-key.invariant c.in-Some.ensures.steps c.in_ok-insert.ensures.entries refl

pub returns : goal.returns
returns c = let all = put_all c.loop-key.invariant c.in-None.ensures.steps.0 refl in cc
