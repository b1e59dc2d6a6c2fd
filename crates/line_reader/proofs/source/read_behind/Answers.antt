use Rattle.std.proofs.Common.{rules, ◌+◌, ◌≤◌, length, take, drop, ap, ◌∙◌, arith}
use Rattle.std.proofs.lemmas.List.{with_items_is, places}
use Rattle.line_reader.proofs.Held.{read_in}
use Rattle.line_reader.proofs.source.read_behind.Goals as goal

pub returns-in-Ok-clause-ok : goal.returns-in-Ok-clause-ok
returns-in-Ok-clause-ok g c =
    let bytes = c.read_at.new.bytes in
    let held = c.args.buffer.now in
    let fits : c.args.end + c.in-Ok.count ≤ length bytes = omega (arith, c.in-Ok.ensures.most, c.in_ok-make_room.ensures.room, c.read_at.ensures.len, c.as_mut_slice.ensures.len) in
    let read = read_in held.items c.make_room.new.bytes.items bytes c.args.end c.in-Ok.count held.len c.make_room.ensures.front c.requires.within
    (c.read_at.ensures.front ∙ ap (take c.args.end) c.as_mut_slice.ensures.value) fits in
    let stored = with_items_is c.make_room.new.bytes bytes (search (rules, places)) in
    (take c.in-Ok.count (drop c.args.end bytes), ap (take (c.args.end + c.in-Ok.count)) stored ∙ read.0, c.in-Ok.ensures.ok, read.1, c.in-Ok.ensures.end)
