use Rattle.std.proofs.Common.{refl, ap}
use Rattle.geoarrow_fields.proofs.Outcomes.{usage_ends}
use Rattle.geoarrow_fields.proofs.program.answer_all.Goals as goal

pub returns-in-Some : goal.returns-in-Some
returns-in-Some g c =
    (c.in-Some.ensures.ran.0, c.in-Some.ensures.ran.1, c.in-Some.ensures.ran.2, refl)

pub returns-in-None : goal.returns-in-None
returns-in-None g c =
    usage_ends _ c.say_usage.result _ _ _ _ _ _ (c.in-None.ensures.usage refl)
    (ap g.R.Read.remaining (c.in-None.ensures.untouched refl).0)
    (ap g.W.Write.contents (c.in-None.ensures.untouched refl).1) c.say_usage.ensures
