use Rattle.std.proofs.Common.{◌∙◌}
use Rattle.geoparquet.proofs.Putting.{found_key}
use Rattle.geoparquet.proofs.ordered.has_member.Goals as goal

pub returns : goal.returns
returns c = c.contains_key.ensures ∙ found_key c.args.name.now c.args.members.now.entries
