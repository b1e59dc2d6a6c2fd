use Rattle.std.proofs.Common.{rules, arith, min, ◌≡◌, inl, inr, Ok, Err, false, [], ◌∷◌, ◌++◌, map, refl, sym, ◌∙◌, subst, ap, append-nil}
use Rattle.std.proofs.lemmas.List.{map-append}
use Rattle.arrow_columns.specs.Column.{column_tree}
use Rattle.column_files.specs.LineFaults.{IsLineRead}
use Rattle.line_reader.specs.Lines.{max_count}
use Rattle.column_files.specs.Files.{bad_line}
use Rattle.column_files.specs.LineItems.{IsOfItems, bad_in, refuses_file}
use Rattle.column_files.proofs.Items.{column_kept, bad_kept, none_read}
use Rattle.column_files.proofs.lines.add_line.Goals as goal
use Rattle.column_files.proofs.lines.add_line.Goals.{else-refuses_file-via-then-refuses_file+else-is_empty, else-refuses_file-via-else-refuses_file}

pub returns-then-is_blank : goal.returns-then-is_blank
returns-then-is_blank c = λ items kept. ([], search rules, subst (λ l. IsOfItems l c.args.read.now) (sym (append-nil items)) kept)

pub returns-in_ok-push-in-Ok : goal.returns-in_ok-push-in-Ok
returns-in_ok-push-in-Ok c = λ items kept.
    let column = c.in-Ok.column in
    let old = c.args.read.now in
    let pushed : c.push.new.self.items ≡ old.columns.items ++ column ∷ [] = search rules in
    let read : IsLineRead c.args.line.now (Ok column) = subst (IsLineRead c.args.line.now) c.in-Ok.is c.in_ok-column.ensures in (
      Ok (column_tree column) ∷ [],
      (search rules, read),
      column_kept items (column_tree column) old (record { columns = c.push.new.self; bad_lines = old.bad_lines }) kept (ap (map column_tree) pushed ∙ map-append column_tree old.columns.items (column ∷ [])) refl,
    )

pub returns-in_ok-add-in-Err : goal.returns-in_ok-add-in-Err
returns-in_ok-add-in-Err c = λ items kept.
    let old = c.args.read.now in
    let fault = c.in-Err.fault in
    let bad = bad_line c.args.before fault in
    let read : IsLineRead c.args.line.now (Err fault) = subst (IsLineRead c.args.line.now) c.in-Err.is c.in_ok-column.ensures in
    let number : c.args.before ≡ min c.args.before max_count = omega (arith, c.ranges.before.fits) in
    let first : items ≡ [] → refuses_file fault ≡ false = λ none. elim c.else-refuses_file.branch [
      | else-refuses_file-via-then-refuses_file+else-is_empty w ↦ absurd (elim w.if-is_empty.ensures [
        | inl some ↦ some (none_read items old kept none).0
        | inr some ↦ some (none_read items old kept none).1
      ])
      | else-refuses_file-via-else-refuses_file w ↦ sym c.refuses_file.ensures ∙ w.if-refuses_file.false
    ] in (
      Err bad ∷ [],
      (search rules, (number, read.0, read.1)),
      bad_kept items bad old (record { columns = old.columns; bad_lines = c.add.new.self }) kept refl (c.in_ok-add-in-Err.ensures (bad_in items) kept.2) first,
    )
