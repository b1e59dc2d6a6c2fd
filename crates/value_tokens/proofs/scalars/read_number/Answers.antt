use Rattle.std.proofs.Common.{arith, refl, sym}
use Rattle.serde_json.specs.Data.{number}
use Rattle.serde_json.specs.View.{number_view}
use Rattle.value_tokens.proofs.Beginnings.{next_number, passed, no_numeral}
use Rattle.value_tokens.proofs.scalars.read_number.Goals as goal

pub returns-in-Some-clause-ok : goal.returns-in-Some-clause-ok
returns-in-Some-clause-ok c = (number (number_view c.in-Some.number), grind (arith, next_number), refl)

pub returns-in_ok-skip_rest-in_default-clause-ok : goal.returns-in_ok-skip_rest-in_default-clause-ok
returns-in_ok-skip_rest-in_default-clause-ok c =
    let (d, is, begins) = passed c.args.depth _ _ c.next.new.self _ (grind arith) c.in_ok-skip_rest-in_default.ensures.ok in
    (d, is, sym (no_numeral _ d begins c.in_default.not-Number))
