use Rattle.std.proofs.Common.{◌≡◌, false, sym, ◌∙◌}
use Rattle.column_files.specs.Endings.{cut, is_arrow_end}
use Rattle.column_files.specs.declared.ending.Ending.TheVariants.{Arrow}
use Rattle.column_files.proofs.ending.arrow_footer_size.Goals as goal

pub returns : goal.returns
returns c =
    let end = c.args.end.now in
    let no : is_arrow_end end ≡ false = sym c.is_arrow_end.ensures ∙ c.if-is_arrow_end.false in
    rw no (c.refused.ensures (cut Arrow c.args.size end) c.cut.ensures)
