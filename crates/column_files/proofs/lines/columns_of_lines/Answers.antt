use Rattle.std.proofs.Common.{rules, arith, ◌≡◌, ◌<◌, [], ◌∷◌, drop, get_or, length, ℕ, List, Err, refl, sym, subst, ap, ◌∙◌, if◌then◌else◌}
use Rattle.std.proofs.lemmas.List.{nil_from_length}
use Rattle.column_files.specs.Files.{bad_line, told_among, AreAllRead, AreLinesRead}
use Rattle.column_files.specs.Forms.{unmarked}
use Rattle.column_files.specs.LineFaults.{later_fault}
use Rattle.column_files.specs.LineItems.{bad_in, LinesGive}
use Rattle.column_files.specs.declared.columns.FileFault.{FileFault}
use Rattle.column_files.specs.declared.columns.FileFault.TheVariants.{NoField, Empty, Foreign, ReportTooLarge, End, Ipc, Footer, Tree, OutOfMemory}
use Rattle.column_files.specs.declared.line.LineFault.TheVariants.{NotUtf8}
use Rattle.column_files.proofs.Items.{columns_alone, first_bad}
use Rattle.column_files.proofs.lines.columns_of_lines.Goals as goal

-- what refuses a file is told of its first line
refused : (text : List ℕ) (fault : FileFault) → AreAllRead text (Err fault) → AreLinesRead text (Err fault)
refused text (NoField n fault) (rest, give, refuses) = (
  Err (bad_line n fault) ∷ [],
  rest,
  [],
  fault,
  give,
  refl,
  sym (ap (λ b. if b then fault else later_fault fault) refuses),
)
refused text OutOfMemory read = tt
refused text Empty read = absurd read
refused text (Foreign foreign found) read = absurd read
refused text ReportTooLarge read = absurd read
refused text (Ipc error) read = absurd read
refused text (End end) read = absurd read
refused text (Footer rule at) read = absurd read
refused text (Tree rule byte) read = absurd read

pub returns-in-Err : goal.returns-in-Err
returns-in-Err c = refused c.args.text.now c.in-Err.fault c.in-Err.ensures

pub returns-in-empty : goal.returns-in-empty
returns-in-empty c =
    let read = c.in-Ok.field-0 in
    let none : read.bad_lines.first.items ≡ [] = nil_from_length read.bad_lines.first.items (search rules) in
    let (items, give, kept) = c.in-Ok.ensures in
    subst (λ l. LinesGive (unmarked c.args.text.now) l []) (columns_alone items read kept none) give

pub returns-in-len1-up : goal.returns-in-len1-up
returns-in-len1-up c =
    let read = c.in-Ok.field-0 in
    let d = bad_line 0 (NotUtf8 0) in
    let some : 0 < length read.bad_lines.first.items = omega (arith, c.in-len1-up.len_at_least, ap length c.as_slice.ensures.value) in
    let (items, give, kept) = c.in-Ok.ensures in
    let first = subst (λ l. bad_in items ≡ get_or l 0 d ∷ drop 1 (bad_in items)) (sym c.as_slice.ensures.value) (first_bad items read d kept some) in
    let bad = get_or c.as_slice.result.now 0 d in
    let told : c.of_later_line.result ≡ told_among items bad.fault = c.of_later_line.ensures ∙ sym (ap (λ b. if b then bad.fault else later_fault bad.fault) kept.0) in
    (items, [], drop 1 (bad_in items), bad.fault, give, first, told)
