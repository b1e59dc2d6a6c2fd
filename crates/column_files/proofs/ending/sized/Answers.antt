use Rattle.std.proofs.Common.{◌≡◌, false, sym, ◌∙◌}
use Rattle.column_files.specs.Endings.{is_size, wrong_size}
use Rattle.column_files.proofs.ending.sized.Goals as goal

pub returns : goal.returns
returns c =
    let a = c.args in
    let no : is_size a.ending a.size a.end.now a.told ≡ false = sym c.is_size.ensures ∙ c.if-is_size.false in
    rw no (c.refused.ensures (wrong_size a.ending a.size a.told) c.wrong_size.ensures)
