use Rattle.std.proofs.Common.{rules}
use Rattle.geoarrow_schema.proofs.Terms.{ArrowError, Reads}
use Rattle.geoarrow_schema.proofs.Reading.{type_reads, reads_alone, column_refused}
use Rattle.geoarrow_schema.proofs.read.read_named.Goals as goal

pub returns-in_ok-metadata-in-Ok : goal.returns-in_ok-metadata-in-Ok
returns-in_ok-metadata-in-Ok c =
    let reads : Reads c.args.field.now c.from_kind.result = type_reads _ c.args.name _ _ _ c.from_kind.ensures.kind c.from_kind.ensures.metadata c.requires (search rules) (search rules) in
    record { ok = reads; only = reads_alone _ _ c.reads_as_one_column.ensures reads; refused = search rules }

pub returns-in_err-metadata-in-Ok-clause-refused : goal.returns-in_err-metadata-in-Ok-clause-refused
returns-in_err-metadata-in-Ok-clause-refused c =
    let refused = λ (a : ArrowError). column_refused c.names_are_distinct.ensures c.args.field.now c.args.name c.in-Ok.kind a c.requires (search rules) in search (rules, refused)
