use Rattle.std.proofs.Common.{◌≡◌, length, ◌++◌, ◌∷◌, [], refl, arith}
use Rattle.std.proofs.lemmas.Str.{is_utf8-from_IsUtf8}
use Rattle.arrow_ipc.specs.Blocks.{text_block}
use Rattle.arrow_ipc.proofs.Blocks.{text_holds, length_text, gives}
use Rattle.arrow_ipc.proofs.write.text_block.Goals as goal

pub returns : goal.returns
returns c =
    let text = c.args.text.now in
    let size = length_text text in
    let body : c.push.new.self.items ≡ text ++ 0 ∷ [] = rw (c.in_ok-push.ensures.items, c.in_ok-extend_from_slice.ensures.items, c.in_ok-body.ensures.items, c.as_bytes.ensures.value) refl in
    let same : c.in_ok-count.count ≡ length text = grind arith in
    gives c.linked_block.result (text_block text) _ _ _ (rw (c.as_slice.ensures.value, same, body) at c.linked_block.ensures) (λ small. text_holds text (is_utf8-from_IsUtf8 text c.utf8.text) (omega (arith, small, size))) (omega (arith, size))
