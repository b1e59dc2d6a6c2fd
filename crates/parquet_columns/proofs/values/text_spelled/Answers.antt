use Rattle.parquet_footer.specs.Spelled.{spelled}
use Rattle.parquet_columns.proofs.Utf8.{read_text, no_text}
use Rattle.parquet_columns.proofs.values.text_spelled.Goals as goal

pub returns-in-Ok : goal.returns-in-Ok
returns-in-Ok c = read_text (spelled c.args.text) c.in-Ok.text.now c.in-Ok.ensures.cases.0 c.in-Ok.ensures.cases.1

pub returns-in-Err : goal.returns-in-Err
returns-in-Err c = no_text (spelled c.args.text) c.in-Err.ensures.cases.0
