use Rattle.std.proofs.Common.{◌≡◌, ◌≤◌, Some, refl, sym, true, take, [], rules, ap, ◌∙◌, subst}
use Rattle.std.proofs.lemmas.Result.{err_from_is_err_and}
use Rattle.std.specs.Io.KnownBytes.{prepend_known}
use Rattle.line_reader.specs.Lines.{max_count, held, HasLine}
use Rattle.column_files.specs.Lines.{is_blank}
use Rattle.column_files.specs.Reading.{ahead, passed, has_item, text_left}
use Rattle.column_files.proofs.Held.{passes_none, passes_kept, passes_line, text_kept, unfinished_next}
use Rattle.column_files.proofs.reading.LineColumns.hold_filled.Goals as goal

pub loop-init : goal.loop-init
loop-init g c =
    let most : passed c.args.self.now ≤ max_count = search rules in
    (refl, refl, passes_none (passed c.args.self.now) (text_left g.R.Read.remaining c.args.self.now) most)

pub returns-in_err-len-clause-err : goal.returns-in_err-len-clause-err
returns-in_err-len-clause-err g c =
    let p = err_from_is_err_and c.from_residual.result c.from_residual.ensures.1 in
    rw (p.1, p.2) (unfinished_next _ (has_item c.args.self.now) (g.R.Read.remaining c.hold_line.new.source) (held c.hold_line.new.self) _ c.in_err-len.ensures.err)

pub loop-preserved : goal.loop-preserved
loop-preserved g c =
    let old = c.loop.self in
    let lines = c.hold_line.new.self in
    let bytes = held lines in
    let before = g.R.Read.remaining old.source in
    let rest = g.R.Read.remaining c.hold_line.new.source in
    let len = c.in-Some.len in
    let begun = text_left g.R.Read.remaining c.args.self.now in
    let left = prepend_known bytes rest in
    let now = prepend_known (held c.pass_line.new.self) rest in
    let line : HasLine bytes rest (Some len) = subst (HasLine bytes rest) c.in-Some.is c.in_ok-len.ensures.line in
    let blank : is_blank (take len bytes) ≡ true = subst (λ l. is_blank l ≡ true) c.line.ensures (sym c.is_blank.ensures ∙ c.if-not-is_blank.false) in
    let passes = passes_kept (passed c.args.self.now) (passed old) _ begun (text_left g.R.Read.remaining old) left [] c.loop.invariant.2
    c.hold_line.ensures.counted (text_kept before rest (ahead old) bytes c.hold_line.ensures.read) in (
      c.loop.invariant.0,
      c.loop.invariant.1,
      passes_line (passed c.args.self.now) _ _ begun rest now bytes len [] passes c.pass_line.ensures.counted line blank (ap (λ l. prepend_known l rest) c.pass_line.ensures.held),
    )
