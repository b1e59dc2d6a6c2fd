-- what is read stands behind what was held, and no line feed stands among the bytes that were seen
use Rattle.std.proofs.Common.{◌≡◌, ◌+◌, ◌-◌, ◌≤◌, length}
use Rattle.memchr.specs.Find.{is_byte, Passes, Nowhere}
use Rattle.line_reader.specs.Lines.{line_feed, max_line_bytes, held, passed}
use Rattle.line_reader.specs.Sources.{ReadsOn}
use Rattle.line_reader.proofs.buffer.LineBuffer.hold_line.Given as goal

abbrev pub invariant-loop-len : goal.invariant-loop-len
invariant-loop-len g l =
    (passed l.self ≡ passed l.initial.self)
    × ReadsOn (g.R.Read.remaining l.initial.source) (g.R.Read.remaining l.source) (held l.initial.self) (held l.self)
    × (l.seen ≤ length (held l.self)) × Nowhere (Passes (is_byte line_feed) (held l.self)) 0 l.seen

abbrev pub decreases-loop-len : goal.decreases-loop-len
decreases-loop-len g l = (max_line_bytes + 1) - length (held l.self)
