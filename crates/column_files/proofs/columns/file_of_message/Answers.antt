use Rattle.std.proofs.Common.{subst}
use Rattle.arrow_ipc.specs.Schema.{Meets, message_in, schema_of_message}
use Rattle.column_files.proofs.columns.file_of_message.Goals as goal

pub returns-in_ok-found-in-Ok-clause-is : goal.returns-in_ok-found-in-Ok-clause-is
returns-in_ok-found-in-Ok-clause-is c =
    (c.in-Ok.schema, subst (Meets (message_in c.args.stream.now) (schema_of_message 61)) c.in-Ok.is c.requires.is, c.file_of_schema.ensures.is, (c.read_entries.result, c.read_entries.ensures, rw (c.file_of_schema.ensures.is.0, c.file_of_schema.ensures.found) c.in_ok-found-in-Ok.ensures))
