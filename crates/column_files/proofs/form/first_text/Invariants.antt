use Rattle.std.proofs.Common.{◌≡◌, map, drop}
use Rattle.column_files.specs.Forms.{first_text}
use Rattle.column_files.proofs.form.first_text.Given as goal

abbrev pub invariant-loop-row : goal.invariant-loop-row
invariant-loop-row l =
    first_text (map (λ row. (row.0.now, row.1)) l.rows) l.text ≡ first_text (map (λ row. (row.0.now, row.1)) (drop l.row-index l.rows)) l.text
