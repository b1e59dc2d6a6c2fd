use Rattle.std.proofs.Common.{Err, ap}
use Rattle.field_lines.proofs.TokenMembers.{text_refused, no_member, skipped_after, skipped_none}
use Rattle.field_lines.proofs.notation.skip_after.Goals as goal

pub returns-clause-ok : goal.returns-clause-ok
returns-clause-ok c = λ found k. skipped_after c.args.depth found k _ c.in_ok-skip_value.ensures.ok c.in_ok-skip_members.ensures.ok

pub returns-in_err-skip_value-clause-text : goal.returns-in_err-skip_value-clause-text
returns-in_err-skip_value-clause-text c = text_refused c.from_residual.ensures.1 (λ e found k. no_member c.args.depth found k _ (c.in_err-skip_value.ensures.text (ap Err e)))

pub returns-in_err-skip_members-clause-text : goal.returns-in_err-skip_members-clause-text
returns-in_err-skip_members-clause-text c = text_refused c.from_residual-in_err-skip_members.ensures.1
    (λ e found k. skipped_none c.args.depth found k _ c.in_ok-skip_value.ensures.ok (c.in_err-skip_members.ensures.text (ap Err e)))
