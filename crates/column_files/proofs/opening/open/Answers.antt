use Rattle.column_files.proofs.Opened.{opened}
use Rattle.column_files.proofs.opening.«open».Goals as goal

pub returns : goal.returns
returns c = opened c.args.bytes.now c.form_of.result c.open_end.result c.form_of.ensures c.open_end.ensures
