use Rattle.std.proofs.Common.{sym, ap, ◌∙◌, option_map}
use Rattle.std.proofs.lemmas.Str.Pattern.{strip_suffix_char}
use Rattle.format_strings.proofs.Noted.{between_ends}
use Rattle.format_strings.proofs.notations.between.Goals as goal

pub returns : goal.returns
returns c =
    let rest = c.in_ok-behind.field-0.now in let end = c.args.end in
    between_ends c.args.front.now end c.args.text.now rest c.strip_suffix.result
    (sym c.behind.ensures ∙ ap (option_map (λ t. t.now)) c.in_ok-behind.was)
    (strip_suffix_char end rest c.strip_suffix.result c.strip_suffix.ensures.cases c.requires)
