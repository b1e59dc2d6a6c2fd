use Rattle.port_laws.proofs.Lines.{infer_types, infer_invalid, infer_arrow, infer_field}
use Rattle.port_laws.proofs.commands.infer_and_columns.Goals as goal

pub returns-clause-types : goal.returns-clause-types
returns-clause-types c = infer_types

pub returns-clause-invalid : goal.returns-clause-invalid
returns-clause-invalid c = infer_invalid

pub returns-clause-arrow : goal.returns-clause-arrow
returns-clause-arrow c = infer_arrow

pub returns-clause-field : goal.returns-clause-field
returns-clause-field c = infer_field
