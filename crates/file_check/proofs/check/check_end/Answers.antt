use Rattle.file_check.proofs.Made.{reported}
use Rattle.file_check.proofs.check.check_end.Goals as goal

pub returns-in-Ok : goal.returns-in-Ok
returns-in-Ok g c =
    reported c.args.asked.now c.args.file.now c.args.form c.args.start c.args.end.now _ _ c.in-Ok.made c.print_made.result c.in-Ok.ensures c.print_made.ensures
