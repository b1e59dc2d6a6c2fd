use Rattle.std.proofs.Common.{◌≡◌, ◌∷◌, ◌++◌, map, flat_map, take, sym, ap, ◌∙◌, arith}
use Rattle.std.proofs.lemmas.List.{take_all, flat_map_more}
use Rattle.file_check.specs.Table.{line_of, line_text, head, rooms_of}
use Rattle.file_check.proofs.Rows.{map_more}
use Rattle.file_check.proofs.table.table_text.Goals as goal

pub loop-row-preserved : goal.loop-row-preserved
loop-row-preserved c =
    let l = c.loop-row in
    let rows = c.args.rows.now in
    let f = line_text c.rooms_of-rooms.result in
    let row = line_of c.row-item.result in
    c.in_ok-push_row-2.ensures ∙ ap (λ s. s ++ f row) l.invariant ∙ flat_map_more f (f head) (map line_of (take l.row-index rows)) row
    ∙ ap (λ ls. f head ++ flat_map f ls) (sym (map_more line_of rows l.row-index c.row-item.result c.loop-row-test.true c.row-item.is))

pub returns : goal.returns
returns c =
    let l = c.loop-row in
    let rows = c.args.rows.now in
    let f = line_text c.rooms_of-rooms.result in
    let lines = map line_of rows in
    let rooms : c.rooms_of-rooms.result ≡ rooms_of (head ∷ lines) = c.rooms_of-rooms.ensures ∙ ap (λ h. rooms_of (h ∷ lines)) c.in_ok-head.ensures in
    l.invariant ∙ ap (λ rs. f head ++ flat_map f (map line_of rs)) (take_all l.row-index rows (omega arith)) ∙ ap (λ r. line_text r head ++ flat_map (line_text r) lines) rooms
