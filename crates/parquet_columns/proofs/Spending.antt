-- What is made of elements for their columns, one after another.
use Rattle.std.proofs.Common.{◌≡◌, ℕ, ◌+◌, ◌<◌, ◌≤◌, List, [], ◌∷◌, ◌++◌, length, map, take, drop, get_or, Option, Ok, Err, refl, sym, ap, subst, ◌∙◌, arith}
use Rattle.std.proofs.lemmas.List.{map-append, length-map, take_more, take-append-drop}
use Rattle.std.specs.List.{slice_get}
use Rattle.arrow_columns.specs.Column.{column_tree}
use Rattle.arrow_columns.specs.Types.{ColumnTree}
use Rattle.arrow_columns.specs.declared.column.SchemaColumn.{SchemaColumn}
use Rattle.parquet_footer.specs.Element.{Element}
use Rattle.parquet_footer.specs.Footer.{Pairing}
use Rattle.parquet_columns.specs.Geometry.{marked_columns}
use Rattle.parquet_columns.specs.Claims.{claim, claims, made_size, made_bytes}
use Rattle.parquet_columns.specs.Marks.{IsMarked, AreMarked}
use Rattle.parquet_columns.specs.declared.marks.Marks.{Marks}
use Rattle.parquet_columns.specs.declared.error.SchemaError.{SchemaError}
use Rattle.parquet_columns.specs.declared.error.SchemaError.TheVariants.{Budget, OutOfMemory}
use Rattle.parquet_columns.proofs.Children.{marked-length}

-- with one column more
pub made_more : (pairs : List Pairing) (es : List Element) (cs : List ColumnTree) (c : ColumnTree)
    → made_bytes pairs es (cs ++ c ∷ []) ≡ made_bytes pairs es cs + made_size pairs (slice_get es (length cs)) c
made_more pairs [] [] c = refl
made_more pairs (e ∷ es) [] c = omega arith
made_more pairs [] (d ∷ cs) c = refl
made_more pairs (e ∷ es) (d ∷ cs) c = omega (arith, made_more pairs es cs c)

-- of the first columns no more than of all
pub made_front : (pairs : List Pairing) (es : List Element) (cs ds : List ColumnTree) → made_bytes pairs es cs ≤ made_bytes pairs es (cs ++ ds)
made_front pairs es [] ds = omega arith
made_front pairs [] (c ∷ cs) ds = omega arith
made_front pairs (e ∷ es) (c ∷ cs) ds = omega (arith, made_front pairs es cs ds)

-- the place of a column among those that are made so far
pub place_of : (pairs : List Pairing) (es : List Element) (made yielded : List SchemaColumn) (at : ℕ) → map column_tree made ≡ marked_columns pairs es (map column_tree yielded) → at ≡ length made
    → at ≡ length (map column_tree yielded)
place_of pairs es made yielded at so_far place =
    place ∙ sym (length-map made column_tree) ∙ ap length so_far ∙ marked-length pairs es (map column_tree yielded)

-- one column more is paid for
pub one_paid : (pairs : List Pairing) (es : List Element) (yielded : List SchemaColumn) (c : SchemaColumn) (child : Option Element) (at left rest amount : ℕ)
    → made_bytes pairs es (map column_tree yielded) + left ≡ amount → at ≡ length (map column_tree yielded) → child ≡ slice_get es at → made_size pairs child (column_tree c) + rest ≡ left
    → made_bytes pairs es (map column_tree (yielded ++ c ∷ [])) + rest ≡ amount
one_paid pairs es yielded c child at left rest amount paid place found cost =
    let ys = map column_tree yielded in
    let child_is : child ≡ slice_get es (length ys) = found ∙ ap (slice_get es) place in
    let size : made_size pairs child (column_tree c) ≡ made_size pairs (slice_get es (length ys)) (column_tree c) = ap (λ o. made_size pairs o (column_tree c)) child_is in
    let more : made_bytes pairs es (map column_tree (yielded ++ c ∷ [])) ≡ made_bytes pairs es ys + made_size pairs (slice_get es (length ys)) (column_tree c) =
    ap (made_bytes pairs es) (map-append column_tree yielded (c ∷ [])) ∙ made_more pairs es ys (column_tree c) in
    omega (arith, size, more, paid, cost)

-- with a column that is not paid for, all columns are not
pub not_paid : (pairs : List Pairing) (es : List Element) (yielded all : List SchemaColumn) (c : SchemaColumn) (child : Option Element) (at left amount : ℕ)
    → made_bytes pairs es (map column_tree yielded) + left ≡ amount → at ≡ length (map column_tree yielded) → child ≡ slice_get es at → left < made_size pairs child (column_tree c)
    → yielded ≡ take (length yielded) all → length yielded < length all → c ≡ get_or all (length yielded) c → amount < made_bytes pairs es (map column_tree all)
not_paid pairs es yielded all c child at left amount paid place found cost front within item =
    let ys = map column_tree yielded in
    let k = length yielded in
    let child_is : child ≡ slice_get es (length ys) = found ∙ ap (slice_get es) place in
    let size : made_size pairs child (column_tree c) ≡ made_size pairs (slice_get es (length ys)) (column_tree c) = ap (λ o. made_size pairs o (column_tree c)) child_is in
    let more : made_bytes pairs es (ys ++ column_tree c ∷ []) ≡ made_bytes pairs es ys + made_size pairs (slice_get es (length ys)) (column_tree c) = made_more pairs es ys (column_tree c) in
    let first : take (k + 1) all ≡ yielded ++ c ∷ [] = take_more all k c within ∙ ap (λ xs. xs ++ get_or all k c ∷ []) (sym front) ∙ ap (λ x. yielded ++ x ∷ []) (sym item) in
    let whole : (ys ++ column_tree c ∷ []) ++ map column_tree (drop (k + 1) all) ≡ map column_tree all =
    ap (λ xs. xs ++ map column_tree (drop (k + 1) all)) (sym (map-append column_tree yielded (c ∷ [])) ∙ ap (map column_tree) (sym first))
    ∙ sym (map-append column_tree (take (k + 1) all) (drop (k + 1) all)) ∙ ap (map column_tree) (take-append-drop (k + 1) all) in
    let most : made_bytes pairs es (ys ++ column_tree c ∷ []) ≤ made_bytes pairs es (map column_tree all) =
    subst (λ cs. made_bytes pairs es (ys ++ column_tree c ∷ []) ≤ made_bytes pairs es cs) whole (made_front pairs es (ys ++ column_tree c ∷ []) (map column_tree (drop (k + 1) all))) in
    omega (arith, size, more, most, paid, cost)

-- why a column is not marked is why the columns are not
pub marked_fails : (pairs : List Pairing) (es : List Element) (yielded all : List SchemaColumn) (c : SchemaColumn) (child : Option Element) (at left amount : ℕ) (e : SchemaError)
    → made_bytes pairs es (map column_tree yielded) + left ≡ amount → at ≡ length (map column_tree yielded) → child ≡ slice_get es at
    → yielded ≡ take (length yielded) all → length yielded < length all → c ≡ get_or all (length yielded) c
    → IsMarked pairs child (column_tree c) left (Err e) → AreMarked pairs es (map column_tree all) amount (Err e)
marked_fails pairs es yielded all c child at left amount Budget paid place found front within item f = not_paid pairs es yielded all c child at left amount paid place found f front within item
marked_fails pairs es yielded all c child at left amount OutOfMemory paid place found front within item f = tt
marked_fails pairs es yielded all c child at left amount _ paid place found front within item f = absurd f

-- all columns are paid for
pub all_paid : (pairs : List Pairing) (es : List Element) (made : Marks) (yielded all : List SchemaColumn) (left amount : ℕ) → yielded ≡ all
    → map column_tree made.columns.items ≡ marked_columns pairs es (map column_tree yielded) → map claim made.elements.items ≡ claims pairs es (map column_tree yielded)
    → made_bytes pairs es (map column_tree yielded) + left ≡ amount → AreMarked pairs es (map column_tree all) amount (Ok made)
all_paid pairs es made yielded all left amount whole so_far said paid =
    let enough : made_bytes pairs es (map column_tree yielded) ≤ amount = omega (arith, paid) in
    subst (λ cs. AreMarked pairs es (map column_tree cs) amount (Ok made)) whole (so_far, said, enough)
