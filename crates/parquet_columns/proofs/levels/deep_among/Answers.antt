use Rattle.std.proofs.Common.{◌≡◌, ◌+◌, length, map, refl, sym, ap, ◌∙◌, arith}
use Rattle.std.proofs.lemmas.List.{length-map}
use Rattle.parquet_columns.specs.Levels.{level, open_of}
use Rattle.parquet_columns.proofs.Children.{same_item}
use Rattle.parquet_columns.proofs.Opening.{deep_here, deep_behind, deep_ends}
use Rattle.parquet_columns.proofs.levels.deep_among.Goals as goal

pub returns-then-len-ge-NESTING_LIMIT : goal.returns-then-len-ge-NESTING_LIMIT
returns-then-len-ge-NESTING_LIMIT c =
    let l = c.loop-at in
    let now = c.close.new.levels in
    let size : length (open_of (map level l.levels.items)) ≡ c.len.result =
    ap length (sym c.in_ok-close.ensures) ∙ length-map now.items level ∙ sym (c.len.ensures ∙ now.ok.0) in
    deep_here c.args.elements.now l.at (l.at + 1) (map level l.levels.items) _ l.invariant.so_far c.loop-at-test.true (omega (arith, size))

pub loop-at-preserved : goal.loop-at-preserved
loop-at-preserved c =
    let l = c.loop-at in
    let es = c.args.elements.now in
    let lt = c.loop-at-test.true in
    let now = c.close.new.levels in
    let size : length (open_of (map level l.levels.items)) ≡ c.len.result =
    ap length (sym c.in_ok-close.ensures) ∙ length-map now.items level ∙ sym (c.len.ensures ∙ now.ok.0) in
    record {
      so_far = deep_behind es l.at (l.at + 1) (map level l.levels.items) _ l.invariant.so_far _ _ _ _ lt (same_item es l.at _ lt) c.in_ok-close.ensures (omega (arith, size)) c.in_ok-enter.ensures refl;
    }

pub returns : goal.returns
returns c = let l = c.loop-at in deep_ends c.args.elements.now l.at (l.at + 1) (map level l.levels.items) _ l.invariant.so_far c.loop-at-test.false
