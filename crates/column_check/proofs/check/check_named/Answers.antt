use Rattle.std.proofs.Common.{rules}
use Rattle.arrow_columns.specs.Column.{column_tree, metadata_on}
use Rattle.column_check.specs.Types.{IsTypeRead}
use Rattle.column_check.specs.Metadata.{IsMetadataRead}
use Rattle.column_check.proofs.check.check_named.Goals as goal

pub returns : goal.returns
returns c =
    let column = column_tree c.args.column.now in
    let kind : IsTypeRead c.args.name column.data_type c.in_ok-kind.kind = search rules in
    let text : IsMetadataRead (metadata_on column) c.in_ok-metadata.metadata = search rules in
    λ infer. c.named_finding.ensures infer column c.args.name c.requires kind text
