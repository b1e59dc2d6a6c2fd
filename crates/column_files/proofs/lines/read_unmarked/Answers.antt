use Rattle.std.proofs.Common.{rules, arith, ◌≡◌, Some, None, Err, [], ◌∷◌, ◌++◌, map, min, length, refl, subst, ap}
use Rattle.std.proofs.lemmas.List.{length-append, nil_from_length}
use Rattle.line_reader.specs.Lines.{max_count}
use Rattle.arrow_columns.specs.Column.{column_tree}
use Rattle.column_files.specs.Files.{bad_line}
use Rattle.column_files.specs.LineItems.{IsLineAdded, AreItems}
use Rattle.column_files.specs.Lines.{LinesTo}
use Rattle.column_files.proofs.Steps.{lines_more, items_more, one_line}
use Rattle.column_files.proofs.lines.read_unmarked.Goals as goal

pub loop-rest-init : goal.loop-rest-init
loop-rest-init c = (omega arith, [], [], refl, refl, refl, (refl, ap (map column_tree) c.new.ensures.items, c.new-2.ensures))

pub loop-rest-smaller : goal.loop-rest-smaller
loop-rest-smaller c = c.first_line.ensures.shorter

pub loop-rest-preserved : goal.loop-rest-preserved
loop-rest-preserved c =
    let text = c.args.text.now in
    let line = c.first_line.result.0.now in
    let behind = c.first_line.result.1.now in
    let n = c.loop-rest.count in
    let old = c.loop-rest.read in
    let now = c.add_line.new.read in
    let adds : IsLineAdded n line old now None = subst (IsLineAdded n line old now) c.in_default.is c.in_ok-fault.ensures in
    let (shorter, lines, items, count, so, are, kept) = c.loop-rest.invariant in
    let (added, gives, here) = adds items kept in (
      omega (arith, c.first_line.ensures.shorter),
      lines ++ line ∷ [],
      items ++ added,
      omega (arith, length-append lines (line ∷ []), count),
      lines_more lines (line ∷ []) text c.loop-rest.rest.now behind so (behind, c.first_line.ensures.line, refl),
      items_more 0 n lines (line ∷ []) items added are (omega (arith, count)) (one_line n line added gives),
      here,
    )

pub returns-in-Some : goal.returns-in-Some
returns-in-Some c =
    let text = c.args.text.now in
    let line = c.first_line.result.0.now in
    let behind = c.first_line.result.1.now in
    let n = c.loop-rest.count in
    let old = c.loop-rest.read in
    let now = c.add_line.new.read in
    let fault = c.in-Some.fault in
    let adds : IsLineAdded n line old now (Some fault) = subst (IsLineAdded n line old now) c.in-Some.is c.in_ok-fault.ensures in
    let (shorter, lines, items, count, so, are, kept) = c.loop-rest.invariant in
    let (none, filled, unread, why, refuses) = adds items kept in
    let blank : AreItems 0 lines [] = subst (AreItems 0 lines) none are in
    let number : n ≡ min n max_count = omega arith in (
      behind,
      (
        lines ++ line ∷ [],
        lines_more lines (line ∷ []) text c.loop-rest.rest.now behind so (behind, c.first_line.ensures.line, refl),
        items_more 0 n lines (line ∷ []) [] (Err (bad_line n fault) ∷ []) blank (omega (arith, count)) (one_line n line (Err (bad_line n fault) ∷ []) (filled, (number, unread, why))),
      ),
      refuses,
    )

pub returns : goal.returns
returns c =
    let none : length c.loop-rest.rest.now ≡ 0 = search rules in
    let empty : c.loop-rest.rest.now ≡ [] = nil_from_length c.loop-rest.rest.now none in
    let (shorter, lines, items, count, so, are, kept) = c.loop-rest.invariant in
    (items, (lines, subst (LinesTo c.args.text.now lines) empty so, are), kept)
