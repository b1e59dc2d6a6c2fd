use Rattle.std.proofs.Common.{◌≡◌, Ok, refl, arith}
use Rattle.arrow_ipc.specs.Parts.{tag_in, parts_in, parts_at}
use Rattle.arrow_ipc.proofs.parts.parts_at.Goals as goal

pub returns-clause-is : goal.returns-clause-is
unfolding tag_in parts_in parts_at
returns-clause-is c =
    let tag : tag_in c.args.bytes.now c.in_ok-table.table ≡ Ok c.in_ok-tag.tag = grind arith in
    rw (← c.in_ok-target_at.ensures, ← c.in_ok-table.ensures.is, ← c.in_ok-name.ensures, ← c.in_ok-nullable.ensures, tag, ← c.in_ok-table_in.ensures, ← c.in_ok-value.ensures.is, ← c.in_ok-_first.ensures)
    (rw (← c.in_ok-kind.ensures, ← c.in_ok-zone.ensures.is, ← c.in_ok-index_in.ensures, ← c.in_ok-vector_in.ensures.is, ← c.in_ok-vector_in-2.ensures.is, c.unwrap_or.ensures, c.unwrap_or-2.ensures) refl)
