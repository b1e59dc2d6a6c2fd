use Rattle.std.proofs.Common.{◌≡◌, ◌-◌, ◌≤◌, length}
use Rattle.geoarrow_meta.specs.PlainTokens.{lexemes_at}
use Rattle.geoarrow_meta.proofs.metadata.plain_members.after_spaces.Given as goal

abbrev pub invariant-loop-at : goal.invariant-loop-at
invariant-loop-at l = (lexemes_at l.bytes l.at ≡ lexemes_at l.bytes l.from) × (l.at ≤ length l.bytes)

abbrev pub decreases-loop-at : goal.decreases-loop-at
decreases-loop-at l = length l.bytes - l.at
