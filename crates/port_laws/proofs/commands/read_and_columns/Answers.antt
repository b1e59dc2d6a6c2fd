use Rattle.port_laws.proofs.Lines.{read_types, read_none, read_invalid, read_arrow, read_field}
use Rattle.port_laws.proofs.commands.read_and_columns.Goals as goal

pub returns-clause-types : goal.returns-clause-types
returns-clause-types c = read_types

pub returns-clause-none : goal.returns-clause-none
returns-clause-none c = read_none

pub returns-clause-invalid : goal.returns-clause-invalid
returns-clause-invalid c = read_invalid

pub returns-clause-arrow : goal.returns-clause-arrow
returns-clause-arrow c = read_arrow

pub returns-clause-field : goal.returns-clause-field
returns-clause-field c = read_field
