use Rattle.std.proofs.Common.{◌≡◌, ◌+◌, ◌-◌, ◌≤◌, length, drop}
use Rattle.std.specs.List.{prefix_len}
use Rattle.json.specs.Run.{is_plain}
use Rattle.geoarrow_meta.proofs.metadata.plain_members.plain_end.Given as goal

abbrev pub invariant-lanes : goal.invariant-lanes
invariant-lanes l = (l.from + prefix_len is_plain (drop l.from l.bytes) ≡ l.at + prefix_len is_plain (drop l.at l.bytes)) × (l.at ≤ length l.bytes)

abbrev pub decreases-lanes : goal.decreases-lanes
decreases-lanes l = length l.bytes - l.at

abbrev pub invariant-bytes : goal.invariant-bytes
invariant-bytes l = (l.from + prefix_len is_plain (drop l.from l.bytes) ≡ l.at + prefix_len is_plain (drop l.at l.bytes)) × (l.at ≤ length l.bytes)

abbrev pub decreases-bytes : goal.decreases-bytes
decreases-bytes l = length l.bytes - l.at
