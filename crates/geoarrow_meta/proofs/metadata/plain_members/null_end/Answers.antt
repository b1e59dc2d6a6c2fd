use Rattle.std.proofs.Common.{◌-◌, length, drop, nat_eq, arith, sym, ap, ◌∙◌, take_all, length-drop}
use Rattle.std.specs.List.{starts_with}
use Rattle.json.specs.Ascii.{null_text}
use Rattle.geoarrow_meta.proofs.PlainTexts.{null_stands}
use Rattle.geoarrow_meta.proofs.metadata.plain_members.null_end.Goals as goal

pub returns : goal.returns
returns c =
    let at = c.args.at in
    let bytes = c.as_bytes.result.now in
    let starts = c.starts_with.ensures in
    let all = take_all (length bytes - at) (drop at bytes) (omega (arith, length-drop at bytes)) in
    let stands = ap (λ t. starts_with nat_eq t null_text) (sym (all ∙ ap (drop at) c.as_bytes.ensures.value)) ∙ sym starts.value ∙ c.if-not-starts_with.false in
    let ends = c.ends_word.ensures c.if-not-ends_word.false in
    (null_stands c.args.text.now at c.byte_at.result stands (sym c.byte_at.ensures) ends.0 ends.1, omega (arith, starts.bound c.if-not-starts_with.false, ap length all, length-drop at bytes))
