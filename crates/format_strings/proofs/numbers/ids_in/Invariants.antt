use Rattle.std.proofs.Common.{◌≡◌, ◌==◌, [], length, drop}
use Rattle.std.specs.List.{slice_split}
use Rattle.format_strings.specs.Numbers.{ids_from}
use Rattle.format_strings.proofs.numbers.ids_in.Given as goal

-- the parts that are left, after the type ids so far, are all
abbrev pub invariant-ids : goal.invariant-ids
invariant-ids l = record {
  can : (goal.iterator-ids).can_next l.part-iterator;
  finite : (goal.iterator-ids).is_finite l.part-iterator;
  rest : ids_from l.ids.items (drop (length l.yielded) (slice_split (λ b. b == 44) l.text)) ≡
      ids_from [] (slice_split (λ b. b == 44) l.text);
}
