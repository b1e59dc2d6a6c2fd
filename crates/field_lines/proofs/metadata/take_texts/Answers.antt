use Rattle.std.proofs.Common.{arith, rules, None, Some, Err, sym, ap, ◌∙◌}
use Rattle.field_lines.proofs.Terms.{IfOk-weaker, parse_map, put, object, texts_of, metadata_of_value, texts_value, member_read}
use Rattle.value_tokens.proofs.Beginnings.{object_read}
use Rattle.field_lines.proofs.TokenMembers.{text_refused}
use Rattle.field_lines.proofs.TokenTexts.{texts_go_on, texts_no_key, texts_no_member, texts_end, slot_put, slots_read}
use Rattle.field_lines.proofs.metadata.take_texts.Goals as goal

pub texts-preserved : goal.texts-preserved
texts-preserved c = texts_go_on c.in_ok-key.key c.in-Some-3.text c.texts.invariant (rw c.in-Some-2.is at c.in_ok-name.ensures.value) (rw c.in-Some-3.is at c.in_ok-text.ensures.ok)
    (search rules) c.in_ok-insert-in-Some-3.ensures.entries

pub returns-clause-ok : goal.returns-clause-ok
returns-clause-ok c = object_read (λ d. metadata_of_value (Some d)) _ _ _ _ _ _ (rw c.in-Some.is at c.in_ok-below.ensures.ok).0 (texts_end c.texts.invariant (grind arith))

pub returns-in-None : goal.returns-in-None
returns-in-None c = let below = c.in-Some.below in
    let opened = rw c.in-Some.is at c.in_ok-below.ensures.ok in
    let before = texts_value (texts_of c.texts.texts.entries) in
    let read = rw c.in-None.is at c.in_ok-text.ensures.ok in
    let found = put c.in-Some-2.name.now read.0 before in
    let decides = c.texts.invariant.decides ∙ member_read below before _ _ _ _ read.0 (rw c.in-Some-2.is at c.in_ok-name.ensures.value) read.1 in
    let same = slot_put before c.in_ok-slots-in-None.slots.entries _ c.in-Some-2.name.now read.0 c.in_ok-key.key None (sym c.in_ok-slots-in-None.ensures) (search rules) read.2 c.in_ok-insert-in-None.ensures.entries in
    record {
      ok = IfOk-weaker _ _ _ (λ o. slots_read _ below _ _ _ _ found opened.0 decides same) c.take_slots.ensures.ok;
      shorter = search rules;
      text = λ refused. opened.0 ∙ ap (parse_map object) (decides ∙ c.take_slots.ensures.text refused found same);
    }

pub returns-in_err-name-clause-text : goal.returns-in_err-name-clause-text
returns-in_err-name-clause-text c _ = (rw c.in-Some.is at c.in_ok-below.ensures.ok).0 ∙ ap (parse_map object) (texts_no_key c.texts.invariant c.in_err-name.ensures.value)

pub returns-in_err-text-clause-text : goal.returns-in_err-text-clause-text
returns-in_err-text-clause-text c = text_refused c.from_residual-in_err-text.ensures.1
    (λ e. (rw c.in-Some.is at c.in_ok-below.ensures.ok).0 ∙ ap (parse_map object) (texts_no_member c.texts.invariant (rw c.in-Some-2.is at c.in_ok-name.ensures.value) (c.in_err-text.ensures.text (ap Err e))))
