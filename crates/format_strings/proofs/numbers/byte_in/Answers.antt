use Rattle.std.proofs.Common.{◌≡◌, None, sym, ◌∙◌, lit<, rules}
use Rattle.std.proofs.lemmas.Str.Pattern.{strip_prefix_char}
use Rattle.format_strings.specs.Numbers.{byte_in}
use Rattle.format_strings.proofs.Parsed.{byte_found, byte_lost}
use Rattle.format_strings.proofs.numbers.byte_in.Goals as goal

pub returns-in_err-number_in-in-None : goal.returns-in_err-number_in-in-None
returns-in_err-number_in-in-None c =
    let none = strip_prefix_char 45 c.args.text.now None c.in-None.ensures.cases (lit< tt) in
    let lost : None ≡ byte_in c.args.text.now =
    byte_lost c.args.text.now none (sym c.number_in-in-None.ensures.is
    ∙ c.in_err-number_in-in-None.was) in
    search (rules, lost)

pub returns-in_ok-number_in-in-None : goal.returns-in_ok-number_in-in-None
returns-in_ok-number_in-in-None c =
    let none = strip_prefix_char 45 c.args.text.now None c.in-None.ensures.cases (lit< tt) in
    byte_found c.args.text.now c.in_ok-number_in-in-None.field-0 none
    (sym c.number_in-in-None.ensures.is
    ∙ c.in_ok-number_in-in-None.was) c.in_ok-number_in-in-None.ensures.below
