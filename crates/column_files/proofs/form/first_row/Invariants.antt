use Rattle.std.proofs.Common.{◌≡◌, map, drop}
use Rattle.column_files.specs.Forms.{first_row}
use Rattle.column_files.proofs.form.first_row.Given as goal

abbrev pub invariant-loop-row : goal.invariant-loop-row
invariant-loop-row l =
    first_row (map (λ row. (row.0, (row.1.now, row.2))) l.rows) l.bytes ≡ first_row (map (λ row. (row.0, (row.1.now, row.2))) (drop l.row-index l.rows)) l.bytes
