use Rattle.std.proofs.Common.{◌∙◌}
use Rattle.parquet_columns.specs.Values.{at}
use Rattle.parquet_columns.proofs.Maps.{at_judged, not_judged}
use Rattle.parquet_columns.proofs.values.judged_at.Goals as goal

pub returns-in-Some : goal.returns-in-Some
returns-in-Some c = λ t is. c.text_in.ensures ∙ at_judged c.in-Some.found.now (at c.args.judged.now c.args.key.now) t c.in-Some.ensures.value is

pub returns-in-None : goal.returns-in-None
returns-in-None c = λ t is. not_judged (at c.args.judged.now c.args.key.now) t c.in-None.ensures.value is
