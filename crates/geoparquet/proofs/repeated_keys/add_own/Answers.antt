use Rattle.std.proofs.Common.{subst}
use Rattle.std.specs.Bool.{OnFalse}
use Rattle.json.specs.Value.{members_view}
use Rattle.geoparquet.specs.Ordered.{ordered_members}
use Rattle.geoparquet.specs.RepeatedKeys.{AreDistinct, steps_on}
use Rattle.geoparquet.proofs.Seeing.{none_repeated, told_none}
use Rattle.geoparquet.proofs.repeated_keys.add_own.Goals as goal

pub returns-else-branch : goal.returns-else-branch
returns-else-branch c =
    let ms = members_view c.args.members.now in
    let distinct : AreDistinct ms = subst (λ b. OnFalse b (AreDistinct ms)) c.if-branch.false c.in_ok-may_repeat.ensures in
    told_none c.args.findings.now.items _ (none_repeated (steps_on c.args.way.now) ms (ordered_members ms) distinct)
