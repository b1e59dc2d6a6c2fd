use Rattle.std.proofs.Common.{◌≡◌, ◌<◌, ◌≤◌, ◌+◌, Some, length, take, sym, ◌∙◌, subst, arith}
use Rattle.std.specs.Prelude.{OnSome, MatchBool, string_bytes}
use Rattle.line_reader.specs.Lines.{held, passed, HasLine}
use Rattle.geoarrow_fields.proofs.Terms.{max_lines}
use Rattle.geoarrow_fields.proofs.Ways.{handed_on, way_starts, way_reads, way_stopped, way_ends, way_breaks, way_answers, way_answers_last}
use Rattle.geoarrow_fields.proofs.reading.answer_lines.Goals as goal

pub loop-scratch-init : goal.loop-scratch-init
loop-scratch-init g c =
    (omega (arith, c.new-lines.ensures.none), way_starts c.args.command _ _ _ _ _ c.new-lines.ensures.none (c.new-lines.ensures.head ∙ c.new.ensures.items) c.requires)

pub returns-in_err-len-clause-err : goal.returns-in_err-len-clause-err
returns-in_err-len-clause-err g c =
    let lines = c.hold_next.new.lines in
    let come = way_reads _ (string_bytes c.loop-scratch.held) c.loop-scratch.invariant.1 (g.R.Read.remaining c.hold_next.new.reader) (passed lines) (held lines) c.hold_next.ensures.read c.hold_next.ensures.counted in
    handed_on _ _ _ c.from_residual.ensures.1 (way_stopped _ (string_bytes c.loop-scratch.held) come _ c.in_err-len.ensures.err)

pub returns-in_default : goal.returns-in_default
returns-in_default g c =
    let lines = c.hold_next.new.lines in
    let rest = g.R.Read.remaining c.hold_next.new.reader in
    let come = way_reads _ (string_bytes c.loop-scratch.held) c.loop-scratch.invariant.1 rest (passed lines) (held lines) c.hold_next.ensures.read c.hold_next.ensures.counted in
    let line = subst (HasLine (held lines) rest) c.in_default.is c.in_ok-len.ensures.line in
    let few : passed lines ≤ max_lines = omega (arith, c.hold_next.ensures.counted, c.loop-scratch.invariant.0) in
    record { done = way_ends _ (string_bytes c.loop-scratch.held) come few line.0; end = line.1; err = tt }

pub returns-in_err-write_answer-clause-err : goal.returns-in_err-write_answer-clause-err
returns-in_err-write_answer-clause-err g c =
    let lines = c.hold_next.new.lines in
    let rest = g.R.Read.remaining c.hold_next.new.reader in
    let come = way_reads _ (string_bytes c.loop-scratch.held) c.loop-scratch.invariant.1 rest (passed lines) (held lines) c.hold_next.ensures.read c.hold_next.ensures.counted in
    let line : HasLine (held lines) rest (Some c.in-Some.len) = subst (HasLine (held lines) rest) c.in-Some.is c.in_ok-len.ensures.line in
    let few : passed lines < max_lines = subst (λ o. OnSome o (passed lines < max_lines)) c.in-Some.is c.in_ok-len.ensures.few in
    handed_on _ _ _ c.from_residual-in_err-write_answer.ensures.1
    (way_breaks _ (string_bytes c.loop-scratch.held) come c.in-Some.len few line (string_bytes c.write_answer.new.held) (g.W.Write.contents c.write_answer.new.writer) _ (rw c.line.ensures at c.in_err-write_answer.ensures.err))

pub returns-then-not-pass_line : goal.returns-then-not-pass_line
returns-then-not-pass_line g c =
    let lines = c.hold_next.new.lines in
    let rest = g.R.Read.remaining c.hold_next.new.reader in
    let len = c.in-Some.len in
    let come = way_reads _ (string_bytes c.loop-scratch.held) c.loop-scratch.invariant.1 rest (passed lines) (held lines) c.hold_next.ensures.read c.hold_next.ensures.counted in
    let line : HasLine (held lines) rest (Some len) = subst (HasLine (held lines) rest) c.in-Some.is c.in_ok-len.ensures.line in
    let few : passed lines < max_lines = subst (λ o. OnSome o (passed lines < max_lines)) c.in-Some.is c.in_ok-len.ensures.few in
    let whole : length (held lines) ≤ len = subst (λ b. MatchBool b (len < length (held lines)) (length (held lines) ≤ len)) c.if-not-pass_line.true c.pass_line.ensures.ended in
    let ends = way_answers_last _ (string_bytes c.loop-scratch.held) come len few line (string_bytes c.write_answer.new.held) (g.W.Write.contents c.write_answer.new.writer) whole (rw c.line.ensures at c.in_ok-write_answer.ensures.ok) in
    record { done = ends.0; end = ends.1; err = tt }

pub loop-scratch-preserved : goal.loop-scratch-preserved
loop-scratch-preserved g c =
    let lines = c.hold_next.new.lines in
    let rest = g.R.Read.remaining c.hold_next.new.reader in
    let len = c.in-Some.len in
    let come = way_reads _ (string_bytes c.loop-scratch.held) c.loop-scratch.invariant.1 rest (passed lines) (held lines) c.hold_next.ensures.read c.hold_next.ensures.counted in
    let line : HasLine (held lines) rest (Some len) = subst (HasLine (held lines) rest) c.in-Some.is c.in_ok-len.ensures.line in
    let few : passed lines < max_lines = subst (λ o. OnSome o (passed lines < max_lines)) c.in-Some.is c.in_ok-len.ensures.few in
    let more : len < length (held lines) = subst (λ b. MatchBool b (len < length (held lines)) (length (held lines) ≤ len)) c.if-not-pass_line.false c.pass_line.ensures.ended in (
      omega (arith, c.pass_line.ensures.counted, few),
      way_answers _ (string_bytes c.loop-scratch.held) come len few line (string_bytes c.write_answer.new.held) (g.W.Write.contents c.write_answer.new.writer) (passed c.pass_line.new.self) (held c.pass_line.new.self)
          c.pass_line.ensures.counted c.pass_line.ensures.held more (rw c.line.ensures at c.in_ok-write_answer.ensures.ok),
    )
