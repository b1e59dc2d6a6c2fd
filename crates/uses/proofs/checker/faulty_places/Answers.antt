use Rattle.std.proofs.Common.{◌∙◌, ap}
use Rattle.uses.proofs.Surveys.{places_with, places_without}
use Rattle.uses.proofs.checker.faulty_places.Goals.{in-Faulty+in_ok-push, in_default}
use Rattle.uses.proofs.checker.faulty_places.Goals as goal

pub loop-place-preserved : goal.loop-place-preserved
loop-place-preserved c = elim c.match-columns-place.branch [
  | in-Faulty+in_ok-push w ↦
      places_with c.args.columns.now c.loop-place.place _ _ _ _ c.loop-place-test.true w.in-Faulty.is c.loop-place.invariant (ap (λ v. v.items) w.places-is ∙ w.in_ok-push.ensures.items)
  | in_default w ↦
      places_without c.args.columns.now c.loop-place.place _ _ _ c.loop-place-test.true w.in_default.not-Faulty c.loop-place.invariant (ap (λ v. v.items) w.places-is)
]
