use Rattle.std.proofs.Common.{◌≡◌, ◌∙◌, length, take, map, sym, ap, arith}
use Rattle.std.proofs.lemmas.Result.{IfOk-weaker}
use Rattle.std.proofs.lemmas.List.{take_all}
use Rattle.arrow_columns.specs.Types.{part_trees}
use Rattle.arrow_columns.specs.Outlines.{outlines, outlined, shaped}
use Rattle.arrow_columns.proofs.Outlining.{outlined_parts}
use Rattle.arrow_columns.proofs.outline.+outline.Goals as goal

pub outline_other-returns : goal.outline_other-returns
outline_other-returns t c =
    let v = c.args.respect in
    let cs = c.args.other.now.parts.items in
    let whole : take c.loop-part.part-index cs ≡ cs = take_all c.loop-part.part-index cs (omega (arith, ap length c.deref-part-items.ensures.value, c.loop-part-test.false)) in
    let all : c.loop-part.fields.items ≡ outlines v (part_trees cs) = c.loop-part.invariant ∙ ap (map (outlined v)) whole ∙ sym (outlined_parts v cs) in
    IfOk-weaker c.shaped.result _ _ (λ made e. e ∙ ap (shaped v c.args.other.now.form) all) c.shaped.ensures
