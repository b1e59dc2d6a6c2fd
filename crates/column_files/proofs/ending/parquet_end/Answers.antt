use Rattle.column_files.specs.Endings.{cut, encrypted}
use Rattle.column_files.specs.declared.ending.Ending.TheVariants.{Parquet}
use Rattle.column_files.proofs.ending.parquet_end.Goals as goal

pub returns-in-Encrypted : goal.returns-in-Encrypted
returns-in-Encrypted c = rw c.in-Encrypted.is (c.refused.ensures (encrypted c.args.size) c.encrypted.ensures)
