-- What lines give, and what is kept of it.
use Rattle.std.proofs.Common.{◌≡◌, ◌+◌, ◌-◌, ◌<◌, ◌≤◌, ℕ, min, false, List, [], ◌∷◌, ◌++◌, length, map, take, Ok, Err, refl, ap, sym, ◌∙◌, subst, arith, append-nil, drop, get_or}
use Rattle.std.proofs.lemmas.List.{length-append, length-map, length-take, nil_from_length, take_all, take-append-le}
use Rattle.line_reader.specs.Lines.{max_count}
use Rattle.arrow_columns.specs.Column.{column_tree}
use Rattle.arrow_columns.specs.Types.{ColumnTree}
use Rattle.column_files.specs.LineItems.{LineItem, columns_in, bad_in, are_refused, refuses_file, max_bad_lines, AreKept, IsOfItems}
use Rattle.column_files.specs.declared.bad_lines.BadLine.{BadLine}
use Rattle.column_files.specs.declared.lines.LinesRead.{LinesRead}

-- ---- one more

pub columns_more : (xs ys : List LineItem) → columns_in (xs ++ ys) ≡ columns_in xs ++ columns_in ys
columns_more [] ys = refl
columns_more (Ok c ∷ xs) ys = ap (λ l. c ∷ l) (columns_more xs ys)
columns_more (Err bad ∷ xs) ys = columns_more xs ys

pub bad_more : (xs ys : List LineItem) → bad_in (xs ++ ys) ≡ bad_in xs ++ bad_in ys
bad_more [] ys = refl
bad_more (Ok c ∷ xs) ys = bad_more xs ys
bad_more (Err bad ∷ xs) ys = ap (λ l. bad ∷ l) (bad_more xs ys)

-- the first is the same, if there is one
refused_more : (xs : List LineItem) (item : LineItem) → are_refused xs ≡ false → (xs ≡ [] → are_refused (item ∷ []) ≡ false) → are_refused (xs ++ item ∷ []) ≡ false
refused_more [] item fine first = first refl
refused_more (Ok c ∷ xs) item fine first = refl
refused_more (Err bad ∷ xs) item fine first = fine

-- a column more
pub column_kept : (items : List LineItem) (c : ColumnTree) (old new : LinesRead) → IsOfItems items old → map column_tree new.columns.items ≡ map column_tree old.columns.items ++ c ∷ []
    → new.bad_lines ≡ old.bad_lines → IsOfItems (items ++ Ok c ∷ []) new
column_kept items c old new (fine, columns, bad) grown same = (
  refused_more items (Ok c) fine (λ none. refl),
  grown ∙ ap (λ l. l ++ c ∷ []) columns ∙ sym (columns_more items (Ok c ∷ [])),
  subst (λ k. AreKept (bad_in (items ++ Ok c ∷ [])) k) (sym same)
      (subst (λ l. AreKept l old.bad_lines) (sym (bad_more items (Ok c ∷ []) ∙ append-nil (bad_in items))) bad),
)

-- a bad line more
pub bad_kept : (items : List LineItem) (bad : BadLine) (old new : LinesRead) → IsOfItems items old → new.columns ≡ old.columns
    → AreKept (bad_in items ++ bad ∷ []) new.bad_lines → (items ≡ [] → refuses_file bad.fault ≡ false) → IsOfItems (items ++ Err bad ∷ []) new
bad_kept items bad old new (fine, columns, kept) same added first = (
  refused_more items (Err bad) fine first,
  ap (λ v. map column_tree v.items) same ∙ columns ∙ sym (columns_more items (Err bad ∷ []) ∙ append-nil (columns_in items)),
  subst (λ l. AreKept l new.bad_lines) (sym (bad_more items (Err bad ∷ []))) added,
)

-- ---- the first of the bad lines are kept

pub kept_more : (bad kept new : List BadLine) (line : BadLine) (m : ℕ) → kept ≡ take max_bad_lines bad → m ≡ min (length bad - max_bad_lines) max_count → length kept < max_bad_lines
    → new ≡ kept ++ line ∷ [] → (new ≡ take max_bad_lines (bad ++ line ∷ [])) × (m ≡ min (length (bad ++ line ∷ []) - max_bad_lines) max_count)
kept_more bad kept new line m is count few grown =
    let short : length bad < max_bad_lines = omega (arith, few, ap length is, length-take max_bad_lines bad) in
    let long = length-append bad (line ∷ []) in (
      grown ∙ ap (λ l. l ++ line ∷ []) (is ∙ take_all max_bad_lines bad (omega (arith, short))) ∙ sym (take_all max_bad_lines (bad ++ line ∷ []) (omega (arith, short, long))),
      omega (arith, count, short, long),
    )

pub kept_counted : (bad kept : List BadLine) (line : BadLine) (m more : ℕ) → kept ≡ take max_bad_lines bad → m ≡ min (length bad - max_bad_lines) max_count → max_bad_lines ≤ length kept
    → more ≡ min (m + 1) max_count → (kept ≡ take max_bad_lines (bad ++ line ∷ [])) × (more ≡ min (length (bad ++ line ∷ []) - max_bad_lines) max_count)
kept_counted bad kept line m more is count full next =
    let long : max_bad_lines ≤ length bad = omega (arith, full, ap length is, length-take max_bad_lines bad) in
    (is ∙ sym (take-append-le max_bad_lines bad (line ∷ []) long), omega (arith, next, count, long, length-append bad (line ∷ [])))

-- ---- none at all

-- the first bad lines are none where none is
pub none_kept : (bad : List BadLine) → take max_bad_lines bad ≡ [] → bad ≡ []
none_kept [] none = refl
none_kept (one ∷ bad) none = absurd (omega (arith, ap length none, length-take max_bad_lines (one ∷ bad)))

-- there are no items where there are neither columns nor bad lines
no_items : (items : List LineItem) → columns_in items ≡ [] → bad_in items ≡ [] → items ≡ []
no_items [] columns bad = refl
no_items (Ok c ∷ items) columns bad = absurd (omega (arith, ap length columns))
no_items (Err b ∷ items) columns bad = absurd (omega (arith, ap length bad))

-- all items are columns where none is bad
pub all_columns : (items : List LineItem) → bad_in items ≡ [] → items ≡ map Ok (columns_in items)
all_columns [] none = refl
all_columns (Ok c ∷ items) none = ap (λ l. Ok c ∷ l) (all_columns items none)
all_columns (Err bad ∷ items) none = absurd (omega (arith, ap length none))

-- nothing is read of no items alone
pub nothing_read : (items : List LineItem) (read : LinesRead) → IsOfItems items read → (read.columns.items ≡ []) × (read.bad_lines.first.items ≡ []) → items ≡ []
nothing_read items read (fine, columns, (kept, count)) (none, no_bad) =
    no_items items (sym columns ∙ ap (map column_tree) none) (none_kept (bad_in items) (sym kept ∙ no_bad))

pub none_read : (items : List LineItem) (read : LinesRead) → IsOfItems items read → items ≡ [] → (read.columns.items ≡ []) × (read.bad_lines.first.items ≡ [])
none_read items read (fine, columns, (kept, count)) none = (
  nil_from_length read.columns.items (omega (arith, ap length (columns ∙ ap columns_in none), length-map read.columns.items column_tree)),
  kept ∙ ap (λ l. take max_bad_lines (bad_in l)) none,
)

-- columns alone, where no bad line is kept
pub columns_alone : (items : List LineItem) (read : LinesRead) → IsOfItems items read → read.bad_lines.first.items ≡ [] → items ≡ map Ok (map column_tree read.columns.items)
columns_alone items read (fine, columns, (kept, count)) no_bad =
    all_columns items (none_kept (bad_in items) (sym kept ∙ no_bad)) ∙ ap (map Ok) (sym columns)

-- the first bad line is the first that is kept
first_kept : (bad kept : List BadLine) (d : BadLine) → kept ≡ take max_bad_lines bad → 0 < length kept → bad ≡ get_or kept 0 d ∷ drop 1 bad
first_kept [] kept d is some = absurd (omega (arith, ap length is, some))
first_kept (b ∷ bad) kept d is some = ap (λ x. x ∷ bad) (sym (ap (λ l. get_or l 0 d) is))

pub first_bad : (items : List LineItem) (read : LinesRead) (d : BadLine) → IsOfItems items read → 0 < length read.bad_lines.first.items
    → bad_in items ≡ get_or read.bad_lines.first.items 0 d ∷ drop 1 (bad_in items)
first_bad items read d (fine, columns, (kept, count)) some = first_kept (bad_in items) read.bad_lines.first.items d kept some
