use Rattle.std.proofs.Common.{arith}
use Rattle.value_tokens.proofs.Beginnings.{passed, no_array}
use Rattle.value_tokens.proofs.open.open_array.Goals as goal

pub returns-in_ok-skip_rest-in_default-clause-ok : goal.returns-in_ok-skip_rest-in_default-clause-ok
returns-in_ok-skip_rest-in_default-clause-ok c =
    let (d, is, begins) = passed c.args.depth _ _ c.next.new.self _ (grind arith) c.in_ok-skip_rest-in_default.ensures.ok in
    (d, is, no_array _ d begins c.in_default.not-BeginArray)
