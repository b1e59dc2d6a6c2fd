use Rattle.std.proofs.Common.{sym}
use Rattle.parquet_columns.proofs.Shapes.{single_by, repeated_by}
use Rattle.parquet_columns.proofs.nodes.column_by.Goals as goal

pub returns : goal.returns
returns c = single_by c.args.name.now c.args.repetition _ _ _ c.is_optional.ensures c.in_ok-column.ensures (sym c.if-is_repeated.ensures)

pub returns-then-is_repeated : goal.returns-then-is_repeated
returns-then-is_repeated c = repeated_by c.args.name.now c.args.repetition _ _ _ c.is_optional.ensures c.in_ok-column.ensures _ c.plain_column-then-is_repeated.result (sym c.if-is_repeated.ensures) c.in_ok-list.ensures c.plain_column-then-is_repeated.ensures
