use Rattle.std.proofs.Common.{map, ◌∙◌}
use Rattle.parquet_columns.specs.Levels.{level}
use Rattle.parquet_columns.proofs.Children.{same_item}
use Rattle.parquet_columns.proofs.Opening.{behind_goes_on, behind_ends}
use Rattle.parquet_columns.proofs.levels.open_behind.Goals as goal

pub loop-child-preserved : goal.loop-child-preserved
loop-child-preserved c =
    let l = c.loop-child in
    let es = c.args.elements.now in
    let lt = c.loop-child-test.true in
    record { so_far = behind_goes_on es l.child-index (map level l.levels.items) _ l.invariant.so_far _ _ _ lt (same_item es l.child-index _ lt) c.in_ok-close.ensures c.in_ok-enter.ensures }

pub returns : goal.returns
returns c =
    let l = c.loop-child in
    c.in_ok-close-2.ensures ∙ behind_ends c.args.elements.now l.child-index (map level l.levels.items) _ l.invariant.so_far c.loop-child-test.false
