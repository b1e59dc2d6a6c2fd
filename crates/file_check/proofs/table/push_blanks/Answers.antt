use Rattle.std.proofs.Common.{◌*◌, ◌%◌, replicate, take, string_bytes, refl, ap, ◌∙◌, arith}
use Rattle.file_check.proofs.Blanks.{behind, ends, is_cut}
use Rattle.file_check.proofs.table.push_blanks.Goals as goal

pub loop-preserved : goal.loop-preserved
loop-preserved c =
    let l = c.loop in
    behind (string_bytes c.args.text.now) (string_bytes l.text) (string_bytes c.push_str.new.self) _ (40 * l.counter) 40 _ l.invariant c.in_ok-push_str.ensures.bytes refl (omega arith)

pub range-requires-clause-end_boundary : goal.range-requires-clause-end_boundary
range-requires-clause-end_boundary c = is_cut (c.args.count % 40) (omega arith)

pub returns : goal.returns
returns c =
    let l = c.loop in
    ends c.push_str-2.result (string_bytes c.args.text.now) (string_bytes l.text) (string_bytes c.push_str-2.new.self) c.range.result.now l.counter c.args.count l.invariant
    (c.range.ensures.value ∙ ap (λ n. take n (replicate 40 32)) (omega arith)) (omega arith) c.push_str-2.ensures.bytes
