use Rattle.std.proofs.Common.{◌≤◌, ◌-◌}
use Rattle.std.specs.Prelude.{string_bytes}
use Rattle.line_reader.specs.Lines.{held, passed}
use Rattle.geoarrow_fields.proofs.Terms.{HasCome, max_lines}
use Rattle.geoarrow_fields.proofs.reading.answer_lines.Given as goal

abbrev pub invariant-loop-scratch : goal.invariant-loop-scratch
invariant-loop-scratch g l =
    (passed l.lines ≤ max_lines)
    × HasCome l.command (passed l.lines) (held l.lines) (string_bytes l.held)
    (g.R.Read.remaining l.initial.reader) (g.R.Read.remaining l.reader) (g.W.Write.contents l.initial.writer) (g.W.Write.contents l.writer)

abbrev pub decreases-loop-scratch : goal.decreases-loop-scratch
decreases-loop-scratch g l = max_lines - passed l.lines
