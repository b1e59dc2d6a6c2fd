use Rattle.std.proofs.Common.{refl}
use Rattle.column_files.proofs.Steps.{lines_more, items_more}
use Rattle.column_files.proofs.laws.columns_follow.Goals as goal

pub returns-clause-none : goal.returns-clause-none
returns-clause-none c = λ text. refl

pub returns-clause-lines : goal.returns-clause-lines
returns-clause-lines c = lines_more

pub returns-clause-items : goal.returns-clause-items
returns-clause-items c = items_more
