use Rattle.std.proofs.Common.{false, subst}
use Rattle.arrow_columns.specs.Column.{column_tree, metadata_on}
use Rattle.column_check.specs.Metadata.{values_of}
use Rattle.column_check.specs.Finding.{IsFinding}
use Rattle.canonical_columns.proofs.ReadFrom.{crs_writable}
use Rattle.canonical_columns.proofs.canonical.canonical_column.Goals as goal

pub as_written-requires : goal.as_written-requires
as_written-requires c =
    let column = column_tree c.args.column in
    let metadata = c.in-Geometry.geometry.metadata in
    let found = subst (IsFinding false column) c.in-Geometry.is c.in_ok-geometry.ensures in
    crs_writable (metadata_on column) (values_of metadata) metadata.crs found.0.3 found.1
