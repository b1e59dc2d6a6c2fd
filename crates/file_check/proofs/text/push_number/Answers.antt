use Rattle.std.proofs.Common.{◌∙◌, ap, sym, [], ◌∷◌, ◌++◌, append_assoc, string_bytes}
use Rattle.std.proofs.lemmas.List.{append-nil}
use Rattle.std.proofs.lemmas.Str.{encodes-append}
use Rattle.std.specs.Char.{encode_utf8}
use Rattle.std.specs.Char.Iter.{escape_rest}
use Rattle.std.specs.Str.{encode_utf8_all}
use Rattle.file_check.proofs.text.push_number.Goals as goal

pub loop-part-preserved : goal.loop-part-preserved
loop-part-preserved c =
    let l = c.loop-part in
    let done = l.yielded in
    let part = c.in-Some.part in
    let before = string_bytes c.args.text.now in
    let next = escape_rest c.next.new.self in
    record {
      text = c.in_ok-push.ensures.bytes ∙ ap (λ t. t ++ encode_utf8 part) l.invariant.text ∙ append_assoc before (encode_utf8_all done) (encode_utf8 part)
          ∙ ap (λ x. before ++ x) (ap (λ e. encode_utf8_all done ++ e) (sym (append-nil (encode_utf8 part))) ∙ sym (encodes-append done (part ∷ [])));
      rest = l.invariant.rest ∙ ap (λ xs. done ++ xs) c.in-Some.ensures.steps.1.0 ∙ sym (append_assoc done (part ∷ []) next);
    }
