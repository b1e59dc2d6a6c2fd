use Rattle.reading_laws.proofs.Agreement.{agrees, whole_read, refuses, passes_over_old_names, reads_no_odd_text}
use Rattle.reading_laws.proofs.laws.agrees_with_reading.Goals as goal

pub returns-clause-types : goal.returns-clause-types
returns-clause-types c =
    let text = c.metadata_is_unique.ensures in
    λ infer. agrees c.args.field.now c.kind_or_fault.ensures text.values_or_fault text.values c.reads_as_one_column.ensures infer c.args._finding.now

pub returns-clause-whole : goal.returns-clause-whole
returns-clause-whole c = λ infer. whole_read c.args.field.now infer c.args._finding.now

pub returns-clause-refused : goal.returns-clause-refused
returns-clause-refused c = λ infer. refuses c.args.field.now c.kind_or_fault.ensures c.metadata_is_unique.ensures.values_or_fault infer c.args._finding.now

pub returns-clause-old : goal.returns-clause-old
returns-clause-old c = passes_over_old_names c.args.field.now

pub returns-clause-odd : goal.returns-clause-odd
returns-clause-odd c = reads_no_odd_text c.args.field.now
