use Rattle.std.proofs.Common.{map, ap, ◌∙◌}
use Rattle.parquet_columns.specs.Findings.{finding}
use Rattle.parquet_columns.specs.Levels.{level}
use Rattle.parquet_columns.proofs.Children.{same_item}
use Rattle.parquet_columns.proofs.Found.{goes_on, ends}
use Rattle.parquet_columns.proofs.elements.add_from.Goals as goal

pub loop-child-preserved : goal.loop-child-preserved
loop-child-preserved c =
    let l = c.loop-child in
    let es = c.args.elements.now in
    let lt = c.loop-child-test.true in
    record {
      so_far = goes_on _ es l.child-index (map finding l.findings.items) _ (map level l.levels.items) l.invariant.so_far _ _ _ _ _ _ lt (same_item es l.child-index _ lt)
          l.invariant.same c.in_ok-close.ensures
          (ap (map level) c.as_slice.ensures.value) c.in_ok-add_of_element.ensures.found
          c.in_ok-enter.ensures;
      same = c.in_ok-add_of_element.ensures.same ∙ l.invariant.same;
    }

pub returns-clause-found : goal.returns-clause-found
returns-clause-found c =
    let l = c.loop-child in
    ends _ c.args.elements.now l.child-index (map finding l.findings.items) _ (map level l.levels.items) l.invariant.so_far c.loop-child-test.false
