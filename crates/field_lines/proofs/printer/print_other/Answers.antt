use Rattle.std.proofs.Common.{codes}
use Rattle.field_lines.proofs.Terms.{string, texts_of, sent, one_key}
use Rattle.field_lines.proofs.Prints.{finished, prints_one_key, prints_parts, prints_text}
use Rattle.field_lines.proofs.printer.print_other.Goals as goal

pub returns : goal.returns
returns c =
    let a = c.args in
    let type = prints_one_key (codes "other") (sent c.in_ok-begin_object-2.ensures) (sent c.in_ok-key-4.ensures) (prints_text (sent c.in_ok-string-2.ensures)) (sent c.in_ok-end_object.ensures) in
    finished _ (prints_parts a.name.now (one_key (codes "other") (string a.notation.now)) a.nullable (texts_of a.metadata.now.entries) (sent c.in_ok-begin_object.ensures)
    c.in_ok-print_metadata.ensures (sent c.in_ok-key.ensures) (sent c.in_ok-string.ensures) (sent c.in_ok-key-2.ensures) (sent c.in_ok-boolean.ensures)
    (sent c.in_ok-key-3.ensures) type) c.end_object-2.ensures
