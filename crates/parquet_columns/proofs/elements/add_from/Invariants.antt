use Rattle.std.proofs.Common.{◌≡◌, [], ◌++◌, map, drop}
use Rattle.parquet_footer.specs.Element.{element}
use Rattle.parquet_columns.specs.Findings.{finding}
use Rattle.parquet_columns.specs.Levels.{level}
use Rattle.parquet_columns.specs.Elements.{findings_from}
use Rattle.parquet_columns.proofs.elements.add_from.Given as goal

abbrev pub invariant-loop-child : goal.invariant-loop-child
invariant-loop-child l = record {
  so_far : map finding l.findings.items ++ findings_from l.initial.values (map level l.levels.items) (map element (drop l.child-index l.elements))
      ≡ map finding l.initial.findings.items ++ findings_from l.initial.values [] (map element l.elements);
  same : l.values ≡ l.initial.values;
}
