use Rattle.std.proofs.Common.{◌≡◌, nat_le, false, length}
use Rattle.std.proofs.lemmas.Bool.{lt-leb}
use Rattle.column_files.specs.Endings.{cut}
use Rattle.column_files.specs.declared.ending.Ending.TheVariants.{Parquet}
use Rattle.column_files.proofs.ending.parquet_footer_size.Goals as goal

pub returns-in_default : goal.returns-in_default
returns-in_default c =
    let end = c.args.end.now in
    let no : nat_le 8 (length end) ≡ false = lt-leb 8 (length end) c.in_default.ensures.cases in
    rw no (c.refused.ensures (cut Parquet c.args.size end) c.cut.ensures)
