use Rattle.std.proofs.Common.{◌≡◌, ◌++◌, map, drop}
use Rattle.arrow_ipc.specs.Shapes.{column_of}
use Rattle.arrow_ipc.proofs.Blocks.{lent}
use Rattle.arrow_ipc.proofs.nesting.nested_fields.Given as goal

-- the columns so far, before those that are left
abbrev pub invariant-loop-field : goal.invariant-loop-field
invariant-loop-field l = lent l.nested.items ++ map column_of (drop l.field-index l.field-items) ≡ map column_of l.field-items

abbrev pub invariant-loop-member : goal.invariant-loop-member
invariant-loop-member l = lent l.nested.items ++ map (λ m. column_of m.1) (drop l.member-index l.member-items) ≡ map (λ m. column_of m.1) l.member-items
