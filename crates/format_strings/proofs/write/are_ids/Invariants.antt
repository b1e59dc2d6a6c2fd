use Rattle.std.proofs.Common.{◌≡◌, [], take, drop}
use Rattle.format_strings.specs.Numbers.{are_ids}
use Rattle.format_strings.proofs.write.are_ids.Given as goal

-- the type ids that are left, after those so far
abbrev pub invariant-ids : goal.invariant-ids
invariant-ids l = are_ids (take l.i l.ids) (drop l.i l.ids) ≡ are_ids [] l.ids
