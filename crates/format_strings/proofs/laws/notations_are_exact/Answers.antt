use Rattle.format_strings.proofs.Noted.{notation_is_read, read_is_notation}
use Rattle.format_strings.proofs.laws.notations_are_exact.Goals as goal

pub returns : goal.returns
returns c = record { all = notation_is_read; only = read_is_notation }
