use Rattle.std.proofs.Common.{◌≡◌, take}
use Rattle.arrow_columns.proofs.+clone.Given as goal

abbrev pub invariant-other::OtherType::try_clone-loop-part : goal.invariant-other::OtherType::try_clone-loop-part
invariant-other::OtherType::try_clone-loop-part l = l.parts.items ≡ take l.part-index l.self.parts.items
