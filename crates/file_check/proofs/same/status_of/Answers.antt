use Rattle.std.proofs.Common.{ap, cond, sym, ◌∙◌}
use Rattle.file_check.proofs.Errors.{any_error}
use Rattle.file_check.proofs.same.status_of.Goals as goal

pub returns-then-has_error : goal.returns-then-has_error
returns-then-has_error c = ap (λ b. cond b 1 0) (sym c.if-has_error.true ∙ c.has_error.ensures ∙ any_error c.args.unlike.now)

pub returns-else-has_error : goal.returns-else-has_error
returns-else-has_error c = ap (λ b. cond b 1 0) (sym c.if-has_error.false ∙ c.has_error.ensures ∙ any_error c.args.unlike.now)
