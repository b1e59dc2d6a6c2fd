use Rattle.column_files.proofs.Texts.{first_bytes}
use Rattle.column_files.proofs.found.first_of.Goals as goal

pub returns : goal.returns
returns c = first_bytes c.args.count c.min.result c.args.text.now c.min.ensures
