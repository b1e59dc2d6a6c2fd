use Rattle.std.proofs.Common.{◌≡◌, take}
use Rattle.uses.specs.Survey.{places_of}
use Rattle.uses.proofs.checker.faulty_places.Given as goal

abbrev pub invariant-loop-place : goal.invariant-loop-place
invariant-loop-place l = l.places.items ≡ places_of 0 (take l.place l.columns)
