use Rattle.std.proofs.Common.{arith, refl, sym}
use Rattle.serde_json.specs.Data.{boolean}
use Rattle.value_tokens.proofs.Beginnings.{next_boolean, passed, no_truth}
use Rattle.value_tokens.proofs.scalars.read_bool.Goals as goal

pub returns-in-Bool-clause-ok : goal.returns-in-Bool-clause-ok
returns-in-Bool-clause-ok c = (boolean c.in-Bool.truth, grind (arith, next_boolean), refl)

pub returns-in_ok-skip_rest-in_default-clause-ok : goal.returns-in_ok-skip_rest-in_default-clause-ok
returns-in_ok-skip_rest-in_default-clause-ok c =
    let (d, is, begins) = passed c.args.depth _ _ c.next.new.self _ (grind arith) c.in_ok-skip_rest-in_default.ensures.ok in
    (d, is, sym (no_truth _ d begins c.in_default.not-Bool))
