use Rattle.port_laws.proofs.Lines.{canon_lines, canon_none, canon_errors, canon_field}
use Rattle.port_laws.proofs.commands.canon_and_read.Goals as goal

pub returns-clause-lines : goal.returns-clause-lines
returns-clause-lines c = canon_lines

pub returns-clause-none : goal.returns-clause-none
returns-clause-none c = canon_none

pub returns-clause-errors : goal.returns-clause-errors
returns-clause-errors c = canon_errors

pub returns-clause-field : goal.returns-clause-field
returns-clause-field c = canon_field
