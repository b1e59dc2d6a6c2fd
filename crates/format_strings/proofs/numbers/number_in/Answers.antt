use Rattle.std.proofs.Common.{◌≡◌, ◌≤◌, ◌^◌, true, false, cond, Some, None, Ok, Err, sym, ap, ◌∙◌}
use Rattle.std.proofs.Common.{lt-ltb, le-ltb, arith}
use Rattle.std.specs.declared.num.ParseIntError.{ParseIntError}
use Rattle.format_strings.specs.Numbers.{leads}
use Rattle.format_strings.proofs.Parsed.{by_parse, leads_not}
use Rattle.format_strings.proofs.numbers.number_in.Goals as goal

pub returns-then-not-leads-clause-is : goal.returns-then-not-leads-clause-is
returns-then-not-leads-clause-is c =
    let l : leads c.args.text.now ≡ false = grind arith in
    sym (leads_not c.args.bound c.args.text.now l)

pub returns-in-Ok-clause-is : goal.returns-in-Ok-clause-is
returns-in-Ok-clause-is c =
    let l : leads c.args.text.now ≡ true = grind arith in
    let b : c.args.bound ≤ 2 ^ 32 = omega arith in
    let r = by_parse {E =
    ParseIntError} c.args.bound c.args.text.now (Ok c.in-Ok.number) c.in-Ok.ensures.value.0 l b
    in
    sym (r ∙ ap (λ t. cond t (Some c.in-Ok.number) None)
    (lt-ltb c.in-Ok.number c.args.bound c.if-number-bound.true))

pub returns-in_default-clause-is : goal.returns-in_default-clause-is
returns-in_default-clause-is c =
    let l : leads c.args.text.now ≡ true = grind arith in
    let b : c.args.bound ≤ 2 ^ 32 = omega arith in
    let r = by_parse {E =
    ParseIntError} c.args.bound c.args.text.now (Ok c.in-Ok.number) c.in-Ok.ensures.value.0 l b
    in
    sym (r ∙ ap (λ t. cond t (Some c.in-Ok.number) None)
    (le-ltb c.in-Ok.number c.args.bound c.if-number-bound.false))

pub returns-in_default-2-clause-is : goal.returns-in_default-2-clause-is
returns-in_default-2-clause-is c =
    let l : leads c.args.text.now ≡ true = grind arith in
    let b : c.args.bound ≤ 2 ^ 32 = omega arith in
    sym (by_parse {E = ParseIntError} c.args.bound c.args.text.now (Err c.in_default.field-0)
    c.in_default.ensures.value.0 l b)
