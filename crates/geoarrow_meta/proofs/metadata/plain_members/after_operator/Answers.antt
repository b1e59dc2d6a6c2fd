use Rattle.std.proofs.Common.{arith, sym, ◌∙◌}
use Rattle.geoarrow_meta.proofs.PlainTexts.{operator_stands}
use Rattle.geoarrow_meta.proofs.metadata.plain_members.after_operator.Goals as goal

pub returns : goal.returns
returns c =
    let stands = operator_stands c.args.text.now c.args.at c.args.byte c.requires.operator (sym c.byte_at.ensures ∙ c.if-byte_at-byte.false) in
    (stands.1, omega arith)
