use Rattle.std.proofs.Common.{Err, ap}
use Rattle.json.specs.Value.{value_view}
use Rattle.column_check.proofs.Reading.{json_read, no_json}
use Rattle.column_check.proofs.said.value_in.Goals as goal

pub returns-in-Ok-clause-value : goal.returns-in-Ok-clause-value
returns-in-Ok-clause-value c = json_read c.args.text.now (value_view c.in-Ok.value) c.in-Ok.ensures.tokens c.in-Ok.ensures.readable c.in-Ok.ensures.read

pub returns-in-Err-Text-clause-value : goal.returns-in-Err-Text-clause-value
returns-in-Err-Text-clause-value c = no_json c.args.text.now (c.in-Err-Text.ensures.text (ap Err c.in-Err-Text.field-0-is))
