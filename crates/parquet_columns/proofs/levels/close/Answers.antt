use Rattle.std.proofs.Common.{map, sym, ap, ◌∙◌, arith}
use Rattle.parquet_columns.specs.Levels.{level}
use Rattle.parquet_columns.proofs.Opening.{last_out, last_kept}
use Rattle.parquet_columns.proofs.levels.close.Goals as goal

pub returns-then-last-gt0 : goal.returns-then-last-gt0
returns-then-last-gt0 c =
    let was = c.in-Some.ensures.items in
    ap (map level) (c.in_ok-push.ensures.items ∙ sym was) ∙ sym (last_kept _ _ _ was c.if-last-gt0.true) ∙ c.levels.invariant.same

pub levels-preserved : goal.levels-preserved
levels-preserved c = record {
  same = sym (last_out _ _ _ c.in-Some.ensures.items (omega (arith, c.if-last-gt0.false))) ∙ c.levels.invariant.same;
}
