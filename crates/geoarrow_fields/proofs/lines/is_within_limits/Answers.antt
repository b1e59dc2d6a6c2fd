use Rattle.std.proofs.Common.{◌≡◌, ◌<◌, length, arith}
use Rattle.std.proofs.lemmas.Grind.{common_steps}
use Rattle.geoarrow_fields.proofs.Feeds.{line_past, line_next, end_within, last_decided}
use Rattle.geoarrow_fields.proofs.lines.is_within_limits.Goals as goal

pub returns-then-is_past_limit : goal.returns-then-is_past_limit
returns-then-is_past_limit c =
    line_past c.loop-at.rest.now c.in-Some.at c.in-Some.ensures c.loop-at.count c.args.input.now c.loop-at.invariant.0 c.if-is_past_limit.ensures

pub loop-at-preserved : goal.loop-at-preserved
loop-at-preserved c = (
  line_next c.loop-at.rest.now c.in-Some.at c.in-Some.ensures c.loop-at.count c.args.input.now c.loop-at.invariant.0 c.if-is_past_limit.ensures,
  omega (arith, c.if-is_past_limit.ensures.0),
)

pub returns-then-is_empty : goal.returns-then-is_empty
returns-then-is_empty c =
    let none : length c.loop-at.rest.now ≡ 0 = grind (arith, common_steps) in
    rw c.if-is_empty.true (end_within c.loop-at.rest.now c.in_default.ensures c.loop-at.count c.args.input.now c.loop-at.invariant.0 c.loop-at.invariant.1 none)

pub returns-else-is_empty : goal.returns-else-is_empty
returns-else-is_empty c =
    let some : 0 < length c.loop-at.rest.now = grind (arith, common_steps) in
    last_decided c.loop-at.rest.now c.in_default.ensures c.loop-at.count c.args.input.now c.loop-at.invariant.0 some _ c.is_past_limit-else-is_empty.ensures
