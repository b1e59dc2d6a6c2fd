use Rattle.arrow_ipc.specs.Schema.{message_in, footer_in, schema_of_message, schema_of_footer}
use Rattle.arrow_ipc.proofs.Told.{message_more, footer_more, denotes_one}
use Rattle.arrow_ipc.proofs.laws.schema_is_unique.Goals as goal

pub returns : goal.returns
returns c = record { stream = λ stream. denotes_one schema_of_message message_more (message_in stream); file = λ file. denotes_one schema_of_footer footer_more (footer_in file) }
