use Rattle.geoparquet.proofs.Seeing.{seen_behind}
use Rattle.geoparquet.proofs.repeated_keys.is_seen.Goals as goal

pub returns-clause-seen : goal.returns-clause-seen
returns-clause-seen c = seen_behind c.args.key.now _ c.args.seen.now c.insert.new.self c.in_ok-before.ensures.updates
