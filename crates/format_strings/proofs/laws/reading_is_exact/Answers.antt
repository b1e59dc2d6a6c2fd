use Rattle.format_strings.proofs.Forth.{format_is_read}
use Rattle.format_strings.proofs.Back.{read_is_format}
use Rattle.format_strings.proofs.laws.reading_is_exact.Goals as goal

pub returns : goal.returns
returns c = record { all = format_is_read; only = read_is_format }
