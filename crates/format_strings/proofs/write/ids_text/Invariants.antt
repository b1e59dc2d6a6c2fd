use Rattle.std.proofs.Common.{◌≡◌, ◌++◌, drop, string_bytes}
use Rattle.format_strings.specs.Numbers.{more_ids}
use Rattle.format_strings.proofs.write.ids_text.Given as goal

-- the type ids that are left, behind those so far
abbrev pub invariant-ids : goal.invariant-ids
invariant-ids l = string_bytes l.text ++ more_ids (drop l.id-index l.others) ≡ string_bytes
    l.initial.text ++ more_ids l.others
