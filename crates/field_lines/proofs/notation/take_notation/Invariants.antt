use Rattle.std.proofs.Common.{length, codes, option_map}
use Rattle.field_lines.proofs.Terms.{as_str}
use Rattle.field_lines.proofs.TokenMembers.{IsOnlyUnderWay}
use Rattle.field_lines.proofs.notation.take_notation.Given as goal

abbrev pub invariant-only : goal.invariant-only
invariant-only l = IsOnlyUnderWay as_str l.depth (codes "other") l.fn.reader l.reader (option_map (λ n. n.now) l.notation)

abbrev pub decreases-only : goal.decreases-only
decreases-only l = length l.reader
