use Rattle.std.proofs.Common.{arith, ◌≡◌, flat_map, take, sym, ap, ◌∙◌}
use Rattle.std.proofs.lemmas.List.{take_all}
use Rattle.std.proofs.lemmas.List.Folds.{flat_map-map}
use Rattle.arrow_values.specs.Texts.{text_of}
use Rattle.same_columns.specs.Lines.{unlike_text}
use Rattle.same_columns.specs.Unlike.{unlike_view}
use Rattle.same_columns.proofs.lines.unlike_lines.Goals as goal

pub returns : goal.returns
returns c =
    let us = c.args.unlike.now in
    let line = unlike_text (text_of c.args.file) in
    let all : take c.loop-one.one-index us ≡ us = take_all c.loop-one.one-index us (omega arith) in
    c.loop-one.invariant ∙ ap (flat_map (λ u. line (unlike_view u))) all ∙ sym (flat_map-map line unlike_view us)
