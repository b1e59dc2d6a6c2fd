use Rattle.std.proofs.Common.{refl}
use Rattle.geoparquet.proofs.Marking.{one_later}
use Rattle.geoparquet.proofs.extended.by_name.Goals as goal

pub loop-member-preserved : goal.loop-member-preserved
loop-member-preserved c = λ name.
    one_later c.args.members.now c.loop-member.member-index c.member-item.result _ c.loop-member.values c.insert.new.self c.loop-member-test.true c.member-item.is refl c.in_ok-insert.ensures.updates name
    (c.loop-member.invariant name)
