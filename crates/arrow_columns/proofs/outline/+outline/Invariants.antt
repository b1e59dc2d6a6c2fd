use Rattle.std.proofs.Common.{◌≡◌, take, map}
use Rattle.arrow_columns.specs.Outlines.{outlined}
use Rattle.arrow_columns.proofs.outline.+outline.Given as goal

abbrev pub invariant-outline_other-loop-part : goal.invariant-outline_other-loop-part
invariant-outline_other-loop-part l = l.fields.items ≡ map (outlined l.respect) (take l.part-index l.other.parts.items)
