use Rattle.std.proofs.Common.{subst}
use Rattle.arrow_ipc.specs.Schema.{Meets, footer_in, schema_of_footer}
use Rattle.column_files.proofs.columns.file_of_footer.Goals as goal

pub returns-in_ok-found-in-Ok-clause-is : goal.returns-in_ok-found-in-Ok-clause-is
returns-in_ok-found-in-Ok-clause-is c =
    (c.in-Ok.schema, subst (Meets (footer_in c.args.bytes.now) (schema_of_footer 61)) c.in-Ok.is c.requires, c.file_of_schema.ensures.is, (c.read_file_entries.result, c.read_file_entries.ensures, rw (c.file_of_schema.ensures.is.0, c.file_of_schema.ensures.found) c.in_ok-found-in-Ok.ensures))

pub returns-in-Err-clause-is : goal.returns-in-Err-clause-is
returns-in-Err-clause-is c = (c.in-Err.error, subst (Meets (footer_in c.args.bytes.now) (schema_of_footer 61)) c.in-Err.is c.requires, c.further.ensures)
