use Rattle.std.proofs.Common.{◌≡◌, ◌<◌, ◌≤◌, Some, drop, take, length, sym, ◌∙◌, subst}
use Rattle.memchr.specs.Find.{is_byte, Passes, Nowhere, IsFirstByte}
use Rattle.line_reader.specs.Lines.{line_feed, max_line_bytes, held, HasNoFeed}
use Rattle.line_reader.proofs.Held.{long_at, long_held, reads_more, none_seen}
use Rattle.line_reader.proofs.buffer.LineBuffer.hold_line.Goals as goal

pub returns-then-len-gt-MAX_LINE_BYTES-clause-err : goal.returns-then-len-gt-MAX_LINE_BYTES-clause-err
returns-then-len-gt-MAX_LINE_BYTES-clause-err g c =
    let s = c.loop-len.self in
    let rest_is : c.part_of-rest.result.now ≡ held s = subst (λ b. c.part_of-rest.result.now ≡ drop s.start (take s.end b)) c.as_slice.ensures.value c.part_of-rest.ensures in
    (c.count.ensures, long_at (held s) c.in-Some.len (subst (λ b. IsFirstByte (is_byte line_feed) b (Some c.in-Some.len)) rest_is c.in-Some.ensures) c.if-len-gt-MAX_LINE_BYTES.true)

pub returns-then-seen-gt-MAX_LINE_BYTES-clause-err : goal.returns-then-seen-gt-MAX_LINE_BYTES-clause-err
returns-then-seen-gt-MAX_LINE_BYTES-clause-err g c =
    let s = c.loop-len.self in
    let rest_is : c.part_of-rest.result.now ≡ held s = subst (λ b. c.part_of-rest.result.now ≡ drop s.start (take s.end b)) c.as_slice.ensures.value c.part_of-rest.ensures in
    let none : HasNoFeed c.part_of-rest.result.now = subst (IsFirstByte (is_byte line_feed) c.part_of-rest.result.now) c.in_default.is c.feed_in.ensures in
    (c.count-then-seen-gt-MAX_LINE_BYTES.ensures, long_held (held s) (subst HasNoFeed rest_is none) (subst (λ b. max_line_bytes < length b) rest_is c.if-seen-gt-MAX_LINE_BYTES.true))

pub loop-len-preserved : goal.loop-len-preserved
loop-len-preserved g c =
    let s = c.loop-len.self in
    let new = c.read_more.new.self in
    let rest = c.part_of-rest.result.now in
    let rest_is : rest ≡ held s = subst (λ b. rest ≡ drop s.start (take s.end b)) c.as_slice.ensures.value c.part_of-rest.ensures in
    let none : HasNoFeed rest = subst (IsFirstByte (is_byte line_feed) rest) c.in_default.is c.feed_in.ensures in
    let read = c.in_ok-read_more.ensures.ok in
    let on = reads_more (g.R.Read.remaining c.args.source.now) (g.R.Read.remaining c.loop-len.source) (g.R.Read.remaining c.read_more.new.source)
    (held c.args.self.now) (held s) (held new) read.0 c.loop-len.invariant.1 read.1 read.2 in
    let after = none_seen (held s) (held new) read.0 read.1 (subst HasNoFeed rest_is none) in
    let seen = subst (λ b. (length b ≤ length (held new)) × Nowhere (Passes (is_byte line_feed) (held new)) 0 (length b)) (sym rest_is) after in
    (c.read_more.ensures.counted ∙ c.loop-len.invariant.0, on, seen.0, seen.1)
