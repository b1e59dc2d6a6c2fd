use Rattle.std.proofs.Common.{sym, ap, ◌∙◌}
use Rattle.arrow_values.specs.Texts.{text_of}
use Rattle.column_reports.specs.Found.{column_in}
use Rattle.column_reports.proofs.ByColumn.{nothing_named}
use Rattle.column_reports.proofs.by_column.names_one.Goals as goal

pub returns-in-None : goal.returns-in-None
returns-in-None c = λ names fs are. sym (nothing_named names (column_in c.args.finding.now) (sym c.column.ensures ∙ ap text_of c.in-None.is))
