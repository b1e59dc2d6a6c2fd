use Rattle.port_laws.proofs.Lines.{canon_infer, canon_unnamed, canon_infer_errors, canon_infer_field}
use Rattle.port_laws.proofs.commands.canon_and_infer.Goals as goal

pub returns-clause-lines : goal.returns-clause-lines
returns-clause-lines c = canon_infer

pub returns-clause-none : goal.returns-clause-none
returns-clause-none c = canon_unnamed

pub returns-clause-errors : goal.returns-clause-errors
returns-clause-errors c = canon_infer_errors

pub returns-clause-field : goal.returns-clause-field
returns-clause-field c = canon_infer_field
