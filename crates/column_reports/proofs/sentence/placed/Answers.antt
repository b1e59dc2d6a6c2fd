use Rattle.std.proofs.Common.{◌≢◌, [], ◌++◌, codes, rules, string_bytes, ap, ◌∙◌}
use Rattle.std.proofs.lemmas.Result.{IfOk-weaker}
use Rattle.column_reports.proofs.Joined.{placed_is}
use Rattle.column_reports.proofs.sentence.placed.Goals as goal

pub returns : goal.returns
returns c =
    let parts = c.args.parts.now in
    let some : parts ≢ [] = search rules in
    IfOk-weaker c.led.result _ _
    (λ text is. placed_is parts (string_bytes text) some (is ∙ ap (λ s. codes " " ++ s) (c.as_str.ensures.value ∙ c.in_ok-place.ensures.ok))) c.led.ensures
