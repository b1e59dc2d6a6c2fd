use Rattle.std.proofs.Common.{◌≡◌, ◌++◌, drop}
use Rattle.arrow_values.specs.Union.{ids_of}
use Rattle.record_writer.proofs.types.ids_of.Given as goal

-- the ids so far, before those that are left
abbrev pub invariant-members : goal.invariant-members
invariant-members l = l.ids.items ++ ids_of (drop l.member-index l.members) ≡ ids_of l.members
