use Rattle.port_laws.proofs.Lines.{canonical_answers}
use Rattle.port_laws.proofs.commands.canonical_line_is_the_normal_form.Goals as goal

pub returns : goal.returns
returns c = canonical_answers c.canon_is_closed.ensures
