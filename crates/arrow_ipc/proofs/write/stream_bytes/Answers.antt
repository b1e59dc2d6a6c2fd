use Rattle.std.proofs.Common.{◌≡◌, ℕ, ◌∷◌, [], List, length, ap, ◌∙◌, arith}
use Rattle.std.proofs.lemmas.Grind.{common_steps}
use Rattle.arrow_ipc.specs.Blocks.{table_block, schema_block, order_number}
use Rattle.arrow_ipc.proofs.Blocks.{stream_built, stream_holds, length_message, length_schema}
use Rattle.arrow_ipc.proofs.write.stream_bytes.Goals as goal

pub returns : goal.returns
returns c =
    let cb = c.args.columns.items in
    let mb = c.args.texts.items in
    let block = schema_block cb mb c.args.order in
    let schema : c.in_ok-schema.schema.items ≡ block = c.in_ok-schema.ensures.0 ∙ ap (λ (n : ℕ). table_block (12 ∷ 4 ∷ 8 ∷ []) (n ∷ 0 ∷ 0 ∷ 0 ∷ []) (cb ∷ mb ∷ [])) (grind (arith, common_steps)) in
    let message = c.in_ok-message.ensures.0 ∙ ap (λ (l : List ℕ). table_block (8 ∷ 10 ∷ 4 ∷ []) (4 ∷ 0 ∷ 1 ∷ 0 ∷ []) (l ∷ [])) schema in
    let is = stream_built _ _ _ _ _ _ c.in_ok-message.message.items block _ c.new-stream.ensures.items c.in_ok-put_word.ensures c.in_ok-put_word-2.ensures c.in_ok-extend_from_slice.ensures.items
    c.in_ok-extend_from_slice-2.ensures.items c.as_slice.ensures.value message (omega arith) in
    let size = length_message block in
    rw is (stream_holds 61 cb mb c.args.order (omega (arith, size, ap length message)), omega (arith, size, length_schema cb mb (order_number c.args.order)))
