use Rattle.std.proofs.Common.{ap, ◌∙◌, arith}
use Rattle.std.specs.Str.Parse.{digits_value}
use Rattle.crs_identity.proofs.Digits.{few_below, no_plus, value_of_none}
use Rattle.crs_identity.proofs.decimal.value_of.Goals as goal

pub returns-in-Ok-clause-value : goal.returns-in-Ok-clause-value
returns-in-Ok-clause-value c = c.in-Ok.ensures.1 ∙ ap (digits_value 10) (no_plus c.args.digits.now c.requires.digits)

pub returns-in-Ok-clause-below : goal.returns-in-Ok-clause-below
returns-in-Ok-clause-below c =
    let same = c.in-Ok.ensures.1 ∙ ap (digits_value 10) (no_plus c.args.digits.now c.requires.digits) in
    omega (arith, same, few_below c.args.digits.now c.requires.digits c.requires.few)

pub returns-in-Err-clause-value : goal.returns-in-Err-clause-value
returns-in-Err-clause-value c = value_of_none c.args.digits.now c.requires.digits c.requires.few c.in-Err.ensures
