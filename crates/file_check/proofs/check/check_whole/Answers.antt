use Rattle.std.proofs.Common.{subst}
use Rattle.column_files.specs.Forms.{IsForm}
use Rattle.file_check.proofs.Made.{of_whole_lines}
use Rattle.file_check.proofs.check.check_whole.Goals as goal

pub returns-in-Lines : goal.returns-in-Lines
returns-in-Lines g c =
    of_whole_lines c.args.asked.now c.args.file.now c.args.bytes.now _ _ c.check_source.result (subst (IsForm c.args.bytes.now) c.in-Lines.is c.form_of-form.ensures)
