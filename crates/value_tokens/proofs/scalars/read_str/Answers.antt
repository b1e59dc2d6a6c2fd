use Rattle.std.proofs.Common.{arith, refl, sym}
use Rattle.serde_json.specs.Data.{string}
use Rattle.value_tokens.proofs.Beginnings.{next_string, passed, no_text}
use Rattle.value_tokens.proofs.scalars.read_str.Goals as goal

pub returns-in-String-clause-ok : goal.returns-in-String-clause-ok
returns-in-String-clause-ok c = (string c.in-String.text.now, grind (arith, next_string), refl)

pub returns-in_ok-skip_rest-in_default-clause-ok : goal.returns-in_ok-skip_rest-in_default-clause-ok
returns-in_ok-skip_rest-in_default-clause-ok c =
    let (d, is, begins) = passed c.args.depth _ _ c.next.new.self _ (grind arith) c.in_ok-skip_rest-in_default.ensures.ok in
    (d, is, sym (no_text _ d begins c.in_default.not-String))
