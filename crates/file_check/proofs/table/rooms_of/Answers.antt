use Rattle.std.proofs.Common.{◌∷◌, List, max, map, take, sym, ap, ◌∙◌}
use Rattle.file_check.specs.Table.{Line, line_of, width, rooms_of}
use Rattle.file_check.specs.declared.table.Rooms.{Rooms}
use Rattle.file_check.proofs.Rows.{map_more, rooms_more}
use Rattle.file_check.proofs.table.rooms_of.Goals as goal

pub loop-row-preserved : goal.loop-row-preserved
loop-row-preserved c =
    let l = c.loop-row in
    let head = line_of c.args.head.now in
    let line = line_of c.row-item.result in
    let rows = c.args.rows.now in
    let w = c.widened-rooms in
    rooms_more (head ∷ map line_of (take l.row-index rows)) line w.result
    (w.ensures.name ∙ ap (λ (r : Rooms). max r.name (width line.name)) l.invariant)
    (w.ensures.holds ∙ ap (λ (r : Rooms). max r.holds (width line.holds)) l.invariant)
    (w.ensures.crs ∙ ap (λ (r : Rooms). max r.crs (width line.crs)) l.invariant)
    ∙ ap (λ (ls : List Line). rooms_of (head ∷ ls)) (sym (map_more line_of rows l.row-index c.row-item.result c.loop-row-test.true c.row-item.is))
