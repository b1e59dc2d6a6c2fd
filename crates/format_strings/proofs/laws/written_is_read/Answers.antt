use Rattle.format_strings.proofs.Forth.{written_is_read}
use Rattle.format_strings.proofs.laws.written_is_read.Goals as goal

pub returns : goal.returns
returns c = written_is_read
