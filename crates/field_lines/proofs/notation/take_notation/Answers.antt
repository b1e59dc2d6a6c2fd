use Rattle.field_lines.proofs.TokenMembers.{only_go_on, only_spoiled, no_notation_of}
use Rattle.field_lines.proofs.notation.take_notation.Goals as goal

pub returns-then-differ-clause-ok : goal.returns-then-differ-clause-ok
returns-then-differ-clause-ok c =
    only_spoiled c.only.invariant no_notation_of (rw c.in-Some.is at c.in_ok-key.ensures.value) c.differ.ensures c.if-differ.true c.in_ok-skip_after.ensures.ok

pub only-preserved : goal.only-preserved
only-preserved c = only_go_on c.only.invariant (rw c.in-Some.is at c.in_ok-key.ensures.value) c.differ.ensures c.if-differ.false c.in_ok-notation-2.ensures.ok
