-- Rows, one after another.
use Rattle.std.proofs.Common.{◌≡◌, ℕ, ◌+◌, ◌<◌, max, List, [], ◌∷◌, ◌++◌, length, get_or, take, map, sym, ap, ◌∙◌, arith}
use Rattle.std.proofs.lemmas.List.{take_more, map-append}
use Rattle.arrow_values.specs.Tree.{Text}
use Rattle.file_check.specs.Table.{Line, width, widest, rooms_of}
use Rattle.file_check.specs.declared.table.Rooms.{Rooms}

module _ {A B : Type 0} (view : A → B) (xs : List A) (i : ℕ) (x : A) (lt : i < length xs) (is : x ≡ get_or xs i x) where
  pub map_more : map view (take (i + 1) xs) ≡ map view (take i xs) ++ view x ∷ []
  map_more = ap (map view) (take_more xs i x lt ∙ ap (λ y. take i xs ++ y ∷ []) (sym is)) ∙ map-append view (take i xs) (x ∷ [])

widest-append : (cells : List Text) (cell : Text) → widest (cells ++ cell ∷ []) ≡ max (widest cells) (width cell)
widest-append [] cell = omega arith
widest-append (c ∷ cells) cell = let e = widest-append cells cell in omega arith

at_more : (f : Line → Text) (lines : List Line) (line : Line) → widest (map f (lines ++ line ∷ [])) ≡ max (widest (map f lines)) (width (f line))
at_more f lines line = ap widest (map-append f lines (line ∷ [])) ∙ widest-append (map f lines) (f line)

pub rooms_more : (lines : List Line) (line : Line) (rooms : Rooms)
    → rooms.name ≡ max (rooms_of lines).name (width line.name) → rooms.holds ≡ max (rooms_of lines).holds (width line.holds) → rooms.crs ≡ max (rooms_of lines).crs (width line.crs)
    → rooms ≡ rooms_of (lines ++ line ∷ [])
rooms_more lines line rooms a b c =
    let name = a ∙ sym (at_more (λ l. l.name) lines line) in
    let holds = b ∙ sym (at_more (λ l. l.holds) lines line) in
    let crs = c ∙ sym (at_more (λ l. l.crs) lines line) in
    ap (λ n. let r : Rooms = record rooms { name = n } in r) name
    ∙ ap (λ n. let r : Rooms = record { name = widest (map (λ l. l.name) (lines ++ line ∷ [])); holds = n; crs = rooms.crs } in r) holds
    ∙ ap (λ n. let r : Rooms = record { name = widest (map (λ l. l.name) (lines ++ line ∷ [])); holds = widest (map (λ l. l.holds) (lines ++ line ∷ [])); crs = n } in r) crs
