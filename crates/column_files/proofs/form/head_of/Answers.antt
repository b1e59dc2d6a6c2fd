use Rattle.column_files.proofs.Texts.{first_bytes}
use Rattle.column_files.proofs.form.head_of.Goals as goal

pub returns : goal.returns
returns c = first_bytes 64 c.min.result c.args.bytes.now c.min.ensures
