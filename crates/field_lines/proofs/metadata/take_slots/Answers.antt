use Rattle.std.proofs.Common.{Err, arith, ap, refl, rules}
use Rattle.field_lines.proofs.TokenMembers.{text_refused}
use Rattle.field_lines.proofs.TokenTexts.{slots_go_on, slots_no_key, slots_no_member, slots_end}
use Rattle.field_lines.proofs.metadata.take_slots.Goals as goal

pub slots-init : goal.slots-init
slots-init c = record { goes_on = λ found same. (found, refl, same); fewer = omega arith }

pub slots-preserved : goal.slots-preserved
slots-preserved c = slots_go_on c.slots.invariant c.in_ok-key.key c.in_ok-text.text (rw c.in-Some.is at c.in_ok-name.ensures.value) c.in_ok-text.ensures.ok (search rules) c.in_ok-insert.ensures.entries

pub returns-clause-ok : goal.returns-clause-ok
returns-clause-ok c = slots_end c.slots.invariant (grind arith) c.in_ok-texts_of_slots.ensures

pub returns-in_err-name-clause-text : goal.returns-in_err-name-clause-text
returns-in_err-name-clause-text c _ = slots_no_key c.slots.invariant c.in_err-name.ensures.value

pub returns-in_err-text-clause-text : goal.returns-in_err-text-clause-text
returns-in_err-text-clause-text c = text_refused c.from_residual-in_err-text.ensures.1 (λ e. slots_no_member c.slots.invariant (rw c.in-Some.is at c.in_ok-name.ensures.value) (c.in_err-text.ensures.text (ap Err e)))
