use Rattle.geoarrow_c.proofs.schema_reports.report_read.Goals as goal

pub returns-in-Ok-clause-done : goal.returns-in-Ok-clause-done
returns-in-Ok-clause-done c = rw c.in-Ok.is c.report_schema.ensures.done
