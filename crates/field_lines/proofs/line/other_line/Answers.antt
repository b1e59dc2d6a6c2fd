use Rattle.std.proofs.Common.{ap, ◌∙◌}
use Rattle.field_lines.proofs.Terms.{read, texts_of, other_value, printed, reads_back}
use Rattle.field_lines.proofs.Round.{other_depth}
use Rattle.field_lines.proofs.line.other_line.Goals as goal

pub returns-clause-text : goal.returns-clause-text
returns-clause-text c = let a = c.args in
    printed (other_value a.name.now a.notation.now a.nullable (texts_of a.metadata.now.entries)) (c.new-out.ensures.before ∙ c.in_ok-with_capacity.ensures.items) c.new-out.ensures.tokens
    c.in_ok-print_other.ensures c.text_of.ensures.text

pub returns-clause-reads_back : goal.returns-clause-reads_back
returns-clause-reads_back c = let a = c.args in
    let m = texts_of a.metadata.now.entries in
    let v = other_value a.name.now a.notation.now a.nullable m in
    ap read (returns-clause-text c) ∙ reads_back v c.new-out.ensures.tokens c.in_ok-print_other.ensures c.text_of.ensures.reads_back (other_depth a.name.now a.notation.now a.nullable m)
