use Rattle.std.proofs.Common.{◌∙◌, ap, sym, [], ◌∷◌, ◌++◌, flat_map}
use Rattle.std.proofs.lemmas.Grind.{flat_map-append}
use Rattle.std.proofs.lemmas.List.{append-nil}
use Rattle.std.proofs.lemmas.Str.{encodes-append}
use Rattle.std.specs.Str.{encode_utf8_all}
use Rattle.file_check.specs.Shown.{shown_as}
use Rattle.file_check.proofs.text.shown.Goals as goal

pub loop-character-preserved : goal.loop-character-preserved
loop-character-preserved c =
    let l = c.loop-character in
    let done = l.yielded in
    let one = c.in-Some.character in
    let all = flat_map shown_as done in
    c.in_ok-push_shown.ensures ∙ ap (λ t. t ++ encode_utf8_all (shown_as one)) l.invariant ∙ sym (encodes-append all (shown_as one))
    ∙ ap encode_utf8_all (ap (λ xs. all ++ xs) (sym (append-nil (shown_as one))) ∙ sym (flat_map-append shown_as done (one ∷ [])))
