use Rattle.std.proofs.Common.{◌≢◌, [], ◌++◌, codes, rules, string_bytes, ap, ◌∙◌}
use Rattle.column_reports.proofs.Joined.{path_is}
use Rattle.column_reports.proofs.sentence.path_words.Goals as goal

pub returns : goal.returns
returns c =
    let path = c.args.path.now in
    let some : path ≢ [] = search rules in
    path_is path (string_bytes c.in_ok-led.field-0) some (c.in_ok-led.ensures ∙ ap (λ s. codes "at " ++ s) (c.as_str.ensures.value ∙ c.in_ok-names.ensures.ok))
