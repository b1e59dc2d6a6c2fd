use Rattle.std.proofs.Common.{sym, ◌∙◌}
use Rattle.std.proofs.lemmas.Bool.{eq-eqb, ne_eqb, cond-true, cond-false}
use Rattle.geoarrow_meta.proofs.PlainRuns.{plain_counted}
use Rattle.geoarrow_meta.proofs.metadata.plain_members.plain_lanes.Goals as goal

pub returns-then-stops-eq0 : goal.returns-then-stops-eq0
returns-then-stops-eq0 c = sym (cond-true _ _ _ (eq-eqb _ _ c.if-stops-eq0.true)) ∙ plain_counted c.args.bytes.now c.args.at c.requires

pub returns-else-stops-eq0 : goal.returns-else-stops-eq0
returns-else-stops-eq0 c = sym (cond-false _ _ _ (ne_eqb _ _ c.if-stops-eq0.false)) ∙ plain_counted c.args.bytes.now c.args.at c.requires
