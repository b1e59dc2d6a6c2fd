use Rattle.std.proofs.Common.{subst}
use Rattle.column_files.specs.Forms.{IsForm}
use Rattle.file_check.proofs.Made.{of_file_lines}
use Rattle.file_check.proofs.check.check_file_head.Goals as goal

pub returns-in-Lines : goal.returns-in-Lines
returns-in-Lines g c =
    let told : IsForm c.args.head.items c.form_of-form.result = subst (λ b. IsForm b c.form_of-form.result) c.as_slice.ensures.value c.form_of-form.ensures in
    of_file_lines c.args.asked.now c.args.file.now c.args.head.items _ _ _ c.check_lines.result (subst (IsForm c.args.head.items) c.in-Lines.is told)
