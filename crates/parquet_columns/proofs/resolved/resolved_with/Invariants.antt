use Rattle.std.proofs.Common.{◌≡◌, map, option_map}
use Rattle.json.specs.Value.{value_view}
use Rattle.arrow_columns.specs.Column.{column_tree}
use Rattle.parquet_footer.specs.Element.{element}
use Rattle.parquet_columns.specs.Findings.{finding}
use Rattle.parquet_columns.specs.Resolved.{beside_at, resolved_from, resolved_columns, resolved_findings, resolved_refuted}
use Rattle.parquet_columns.proofs.resolved.resolved_with.Given as goal

abbrev pub invariant-loop-column : goal.invariant-loop-column
invariant-loop-column l =
    let at = beside_at (map element l.children) (map column_tree l.others) (map column_tree l.compared) l.takes in
    let rs = resolved_from (option_map (λ v. value_view v.now) l.geo) at 0 (map column_tree l.yielded) in
    record {
      so_far : map column_tree l.columns.items ≡ resolved_columns rs;
      told : map finding l.findings.items ≡ resolved_findings rs;
      marked : l.flags.items ≡ resolved_refuted rs;
    }
