use Rattle.std.proofs.Common.{refl}
use Rattle.json.specs.Value.{members_view}
use Rattle.geoparquet.specs.Ordered.{ordered_members}
use Rattle.geoparquet.proofs.Putting.{one_put}
use Rattle.geoparquet.proofs.ordered.ordered_members.Goals as goal

pub loop-member-preserved : goal.loop-member-preserved
loop-member-preserved c =
    one_put c.args.members.now c.loop-member.member-index c.member-item.result _ c.loop-member.made.entries c.insert.new.self.entries (ordered_members (members_view c.args.members.now))
    c.loop-member-test.true c.member-item.is refl c.in_ok-insert.ensures.entries c.loop-member.invariant
