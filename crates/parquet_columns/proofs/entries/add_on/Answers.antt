use Rattle.std.proofs.Common.{map}
use Rattle.arrow_ipc.specs.Entries.{entry}
use Rattle.parquet_columns.specs.Findings.{finding}
use Rattle.parquet_columns.proofs.Repeating.{both_keys}
use Rattle.parquet_columns.proofs.entries.add_on.Goals as goal

pub returns : goal.returns
returns c =
    both_keys c.args.part c.args.name.now (map entry c.args.entries.now) (map finding c.args.findings.now.items) (map finding c.add_repeated.new.findings.items)
    (map finding c.add_repeated-2.new.findings.items) c.in_ok-add_repeated.ensures c.in_ok-add_repeated-2.ensures
