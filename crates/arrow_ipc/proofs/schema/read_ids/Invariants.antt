use Rattle.std.proofs.Common.{◌≡◌, ◌-◌, []}
use Rattle.arrow_ipc.specs.Columns.{ids_from}
use Rattle.arrow_ipc.proofs.schema.read_ids.Given as goal

-- the ids that are left, after those so far, are all
abbrev pub invariant-ids : goal.invariant-ids
invariant-ids l = ids_from l.bytes l.parts.table l.parts.ids l.ids.items l.i (l.fn.count - l.i) ≡ ids_from l.bytes l.parts.table l.parts.ids [] 0 l.fn.count
