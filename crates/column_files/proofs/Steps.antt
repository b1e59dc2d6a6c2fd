-- The lines of a text, one after another.
use Rattle.std.proofs.Common.{◌≡◌, ◌+◌, ℕ, min, List, [], ◌∷◌, ◌++◌, length, Ok, Err, refl, ap, sym, ◌∙◌, subst, arith}
use Rattle.std.proofs.lemmas.List.{append_assoc, append-nil}
use Rattle.line_reader.specs.Lines.{max_count}
use Rattle.column_files.specs.Lines.{LinesTo}
use Rattle.column_files.specs.LineItems.{LineItem, Gives, AreItems}

-- lines, and those behind them
pub lines_more : (lines more : List (List ℕ)) (text rest later : List ℕ) → LinesTo text lines rest → LinesTo rest more later → LinesTo text (lines ++ more) later
lines_more [] more text rest later so on = subst (λ t. LinesTo t more later) (sym so) on
lines_more (line ∷ lines) more text rest later so on = (so.0, so.1, lines_more lines more so.0 rest later so.2 on)

-- what lines give, behind n and behind m, where both numbers stop alike
gives_from : (n m : ℕ) (line : List ℕ) (items : List LineItem) → min n max_count ≡ min m max_count → Gives m line items → Gives n line items
gives_from n m line [] same gives = gives
gives_from n m line (Ok c ∷ []) same gives = gives
gives_from n m line (Err bad ∷ []) same (filled, (number, none, why)) = (filled, (number ∙ sym same, none, why))
gives_from n m line (one ∷ other ∷ items) same gives = absurd gives

pub items_from : (n m : ℕ) (lines : List (List ℕ)) (items : List LineItem) → min n max_count ≡ min m max_count → AreItems m lines items → AreItems n lines items
items_from n m [] items same are = are
items_from n m (line ∷ lines) items same (mine, others, is, gives, are) =
    (mine, others, is, gives_from n m line mine same gives, items_from (n + 1) (m + 1) lines others (omega (arith, same)) are)

-- and those behind them
pub items_more : (n m : ℕ) (lines more : List (List ℕ)) (xs ys : List LineItem) → AreItems n lines xs → min m max_count ≡ min (n + length lines) max_count → AreItems m more ys
    → AreItems n (lines ++ more) (xs ++ ys)
items_more n m [] more xs ys none next here =
    subst (λ l. AreItems n more (l ++ ys)) (sym none) (items_from n m more ys (omega (arith, next)) here)
items_more n m (line ∷ lines) more xs ys (mine, others, is, gives, are) next here =
    let on : min m max_count ≡ min (n + 1 + length lines) max_count = omega (arith, next) in
    (mine, others ++ ys, ap (λ l. l ++ ys) is ∙ append_assoc mine others ys, gives, items_more (n + 1) m lines more others ys are on here)

-- one line alone
pub one_line : (n : ℕ) (line : List ℕ) (items : List LineItem) → Gives n line items → AreItems n (line ∷ []) items
one_line n line items gives = (items, [], sym (append-nil items), gives, refl)
