use Rattle.geoarrow_schema.proofs.Uninferred.{levels_over}
use Rattle.geoarrow_schema.proofs.infer.fault_text.Goals as goal

pub returns-then-summary-gt0 : goal.returns-then-summary-gt0
returns-then-summary-gt0 c = levels_over _ _ _ _ c.if-summary-gt0.true c.summarize-summary.ensures.1
