use Rattle.std.proofs.Common.{arith}
use Rattle.std.proofs.lemmas.Str.Pattern.{split_once_first}
use Rattle.parquet_columns.proofs.Parts.{parted}
use Rattle.parquet_columns.proofs.geometry.colon_parts.Goals as goal

pub returns : goal.returns
returns c = parted c.args.text.now c.split_once.result (split_once_first 58 c.args.text.now c.split_once.result c.split_once.ensures.cases (omega arith))
