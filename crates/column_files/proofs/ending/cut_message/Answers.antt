use Rattle.std.proofs.Common.{◌≡◌, ◌≤◌, ◌<◌, ◌-◌, nat_le, true, false, length, sym, ap, ◌∙◌, subst}
use Rattle.std.proofs.lemmas.Bool.{le-leb, lt-leb}
use Rattle.column_files.specs.Endings.{message_begin, message_size, cut_at, end_of}
use Rattle.column_files.proofs.ending.cut_message.Goals as goal

pub returns-then-begin-bytes : goal.returns-then-begin-bytes
returns-then-begin-bytes c =
    let bytes = c.args.bytes.now in
    let begins = c.message_begin-begin.ensures in
    let fits : message_begin bytes ≤ length bytes = subst (λ n. n ≤ length bytes) begins c.if-begin-bytes.true in
    let yes : nat_le (message_begin bytes) (length bytes) ≡ true = le-leb (message_begin bytes) (length bytes) fits in
    rw yes (c.refused.ensures (cut_at (message_begin bytes) (message_size bytes) bytes) (rw (sym begins, sym c.message_size.ensures) c.cut_at.ensures))

pub returns : goal.returns
returns c =
    let bytes = c.args.bytes.now in
    let begins = c.message_begin-begin.ensures in
    let few : length bytes < message_begin bytes = subst (λ n. length bytes < n) begins c.if-begin-bytes.false in
    let no : nat_le (message_begin bytes) (length bytes) ≡ false = lt-leb (message_begin bytes) (length bytes) few in
    rw no (c.refused-2.ensures (cut_at (message_begin bytes - 4) 4 bytes) (rw (sym begins) c.cut_at-2.ensures))
