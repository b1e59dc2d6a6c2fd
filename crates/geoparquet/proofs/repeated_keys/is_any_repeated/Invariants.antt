use Rattle.std.proofs.Common.{drop}
use Rattle.arrow_values.specs.Tree.{Text}
use Rattle.geoparquet.proofs.Seeing.{IsCounted}
use Rattle.geoparquet.proofs.repeated_keys.is_any_repeated.Given as goal

-- each key was seen once or never, and the members that are left have it as often as it lacks
abbrev pub invariant-loop-member : goal.invariant-loop-member
invariant-loop-member l = (name : Text) → IsCounted l.seen (drop l.member-index l.members) l.members name
