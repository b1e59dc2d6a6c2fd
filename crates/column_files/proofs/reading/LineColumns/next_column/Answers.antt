use Rattle.std.proofs.Common.{◌≡◌, ◌∷◌, [], Ok, Err, Some, IfSome, false, take, min, ap, subst, arith}
use Rattle.std.specs.Io.KnownBytes.{prepend_known}
use Rattle.arrow_columns.specs.Column.{column_tree}
use Rattle.line_reader.specs.Lines.{held, max_count, HasLine}
use Rattle.column_files.specs.Lines.{is_blank}
use Rattle.column_files.specs.Files.{bad_line}
use Rattle.column_files.specs.LineFaults.{IsLineRead}
use Rattle.column_files.specs.Reading.{ahead, passed, text_left}
use Rattle.column_files.proofs.Held.{passes_line}
use Rattle.column_files.proofs.reading.LineColumns.next_column.Goals as goal

pub returns-in-Ok-clause-passed : goal.returns-in-Ok-clause-passed
returns-in-Ok-clause-passed g c =
    let at = c.hold_filled.new.self in
    let bytes = ahead at in
    let rest = g.R.Read.remaining at.source in
    let len = c.in-Some.len in
    let column = column_tree c.in-Ok.column in
    let line : HasLine bytes rest (Some len) = subst (HasLine bytes rest) c.in-Some.is c.in_ok-len.ensures.line in
    let filled : is_blank (take len bytes) ≡ false = subst (λ o. IfSome o (λ n. is_blank (take n bytes) ≡ false)) c.in-Some.is c.in_ok-len.ensures.filled in
    let read : IsLineRead (take len bytes) (Ok c.in-Ok.column) = subst (λ l. IsLineRead l (Ok c.in-Ok.column)) c.line.ensures (subst (IsLineRead c.line.result.now) c.in-Ok.is c.in_ok-column.ensures) in
    passes_line (passed c.args.self.now) (passed at) _ (text_left g.R.Read.remaining c.args.self.now) rest (prepend_known (held c.pass_line.new.self) rest) bytes len
    (Ok column ∷ []) c.hold_filled.ensures.passed c.pass_line.ensures.counted line (filled, read) (ap (λ l. prepend_known l rest) c.pass_line.ensures.held)

pub returns-in-Err-clause-passed : goal.returns-in-Err-clause-passed
returns-in-Err-clause-passed g c =
    let at = c.hold_filled.new.self in
    let bytes = ahead at in
    let rest = g.R.Read.remaining at.source in
    let len = c.in-Some.len in
    let fault = c.in-Err.fault in
    let before = c.count-before.result in
    let line : HasLine bytes rest (Some len) = subst (HasLine bytes rest) c.in-Some.is c.in_ok-len.ensures.line in
    let filled : is_blank (take len bytes) ≡ false = subst (λ o. IfSome o (λ n. is_blank (take n bytes) ≡ false)) c.in-Some.is c.in_ok-len.ensures.filled in
    let read : IsLineRead (take len bytes) (Err fault) = subst (λ l. IsLineRead l (Err fault)) c.line.ensures (subst (IsLineRead c.line.result.now) c.in-Err.is c.in_ok-column.ensures) in
    let number : before ≡ min (passed at) max_count = omega (arith, c.count-before.ensures) in
    passes_line (passed c.args.self.now) (passed at) _ (text_left g.R.Read.remaining c.args.self.now) rest (prepend_known (held c.pass_line-in-Err.new.self) rest) bytes len
    (Err (bad_line before fault) ∷ []) c.hold_filled.ensures.passed c.pass_line-in-Err.ensures.counted line (filled, (number, read.0, read.1)) (ap (λ l. prepend_known l rest) c.pass_line-in-Err.ensures.held)
