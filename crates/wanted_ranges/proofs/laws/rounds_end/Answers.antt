use Rattle.wanted_ranges.proofs.Steps.{three_are_enough, two_are_enough}
use Rattle.wanted_ranges.proofs.laws.rounds_end.Goals as goal

pub returns-clause-known : goal.returns-clause-known
returns-clause-known c = three_are_enough

pub returns-clause-pipes : goal.returns-clause-pipes
returns-clause-pipes c = two_are_enough
