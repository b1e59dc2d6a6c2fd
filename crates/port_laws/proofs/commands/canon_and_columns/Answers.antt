use Rattle.port_laws.proofs.Lines.{canon_columns, canon_columns_none, canon_columns_invalid, canon_columns_arrow, canon_columns_field}
use Rattle.port_laws.proofs.commands.canon_and_columns.Goals as goal

pub returns-clause-lines : goal.returns-clause-lines
returns-clause-lines c = canon_columns

pub returns-clause-none : goal.returns-clause-none
returns-clause-none c = canon_columns_none

pub returns-clause-invalid : goal.returns-clause-invalid
returns-clause-invalid c = canon_columns_invalid

pub returns-clause-arrow : goal.returns-clause-arrow
returns-clause-arrow c = canon_columns_arrow

pub returns-clause-field : goal.returns-clause-field
returns-clause-field c = canon_columns_field
