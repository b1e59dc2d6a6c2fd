use Rattle.std.proofs.Common.{◌≡◌, flat_map, take, string_bytes}
use Rattle.arrow_values.specs.Texts.{text_of}
use Rattle.same_columns.specs.Lines.{unlike_text}
use Rattle.same_columns.specs.Unlike.{unlike_view}
use Rattle.same_columns.proofs.lines.unlike_lines.Given as goal

abbrev pub invariant-loop-one : goal.invariant-loop-one
invariant-loop-one l = string_bytes l.text ≡ flat_map (λ u. unlike_text (text_of l.file) (unlike_view u)) (take l.one-index l.unlike)
