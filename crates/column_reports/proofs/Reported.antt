-- Reports, column by column, and their lines.
use Rattle.std.proofs.Common.{◌≡◌, Bool, ℕ, ◌+◌, ◌<◌, ◌≤◌, List, [], ◌∷◌, ◌++◌, length, get_or, map, drop, Option, refl, sym, ap, ap₂, ◌∙◌, subst, arith, Global}
use Rattle.std.specs.List.{zip}
use Rattle.std.proofs.lemmas.List.{map-append, append_assoc, append-nil, at_drop_more, drop_all, length-append}
use Rattle.arrow_values.specs.Tree.{Text}
use Rattle.arrow_columns.specs.Column.{column_tree}
use Rattle.arrow_columns.specs.Types.{ColumnTree}
use Rattle.arrow_columns.specs.declared.column.SchemaColumn.{SchemaColumn}
use Rattle.geoparquet.specs.Facts.{facts_view}
use Rattle.geoparquet.specs.declared.facts.ColumnFacts.{ColumnFacts}
use Rattle.std.specs.declared.vec.Vec.{Vec}
use Rattle.column_reports.specs.Columns.{IsColumnReport, Told}
use Rattle.column_reports.specs.FileReport.{AreReported, line_of, lines_of}
use Rattle.column_reports.specs.Named.{Known, all_known, named_view}
use Rattle.column_reports.specs.Weights.{Weighing}
use Rattle.column_reports.specs.declared.finding.Finding.{Finding}
use Rattle.column_reports.specs.declared.named.Named.{Named}
use Rattle.column_reports.specs.declared.report.ColumnReport.{ColumnReport}

-- a column with what is known of it, and what its file tells of it
abbrev pub known_view : ColumnFacts × Named → Known
known_view x = record { facts = facts_view x.0; by = x.1.by; beside = (named_view x.1).beside }

abbrev pub told_view : Vec Finding Global × Vec Finding Global → Told
told_view x = (x.0.items, x.1.items)

abbrev pub Given : Type 0
Given = (SchemaColumn × (ColumnFacts × Named)) × (Vec Finding Global × Vec Finding Global)

abbrev pub viewed : Given → (ColumnTree × Known) × Told
viewed x = ((column_tree x.0.0, known_view x.0.1), told_view x.1)

-- lists side by side, each by its view
zip_mapped : {A B C D : Type 0} (f : A → C) (g : B → D) (xs : List A) (ys : List B) → map (λ p. (f p.0, g p.1)) (zip xs ys) ≡ zip (map f xs) (map g ys)
zip_mapped f g [] ys = refl
zip_mapped f g (x ∷ xs) [] = refl
zip_mapped f g (x ∷ xs) (y ∷ ys) = ap (λ ps. (f x, g y) ∷ ps) (zip_mapped f g xs ys)

known_zip : (fs : List ColumnFacts) (ns : List Named) → map known_view (zip fs ns) ≡ all_known (map facts_view fs) (map named_view ns)
known_zip [] ns = refl
known_zip (f ∷ fs) [] = refl
known_zip (f ∷ fs) (n ∷ ns) = ap (λ ks. known_view (f, n) ∷ ks) (known_zip fs ns)

pub zip_viewed : (cs : List SchemaColumn) (fs : List ColumnFacts) (ns : List Named) (before behind : List (Vec Finding Global))
    → map viewed (zip (zip cs (zip fs ns)) (zip before behind))
    ≡ zip (zip (map column_tree cs) (all_known (map facts_view fs) (map named_view ns))) (zip (map (λ own. own.items) before) (map (λ own. own.items) behind))
zip_viewed cs fs ns before behind =
    zip_mapped (λ (x : SchemaColumn × (ColumnFacts × Named)). (column_tree x.0, known_view x.1)) told_view (zip cs (zip fs ns)) (zip before behind)
    ∙ ap₂ zip (zip_mapped column_tree known_view cs (zip fs ns) ∙ ap (zip (map column_tree cs)) (known_zip fs ns))
    (zip_mapped (λ (own : Vec Finding Global). own.items) (λ own. own.items) before behind)

-- one more of them with its report
reported_more : (infer : Bool) (w : Weighing) (alone : Bool) (xs : List ((ColumnTree × Known) × Told)) (rs : List ColumnReport) (x : (ColumnTree × Known) × Told) (r : ColumnReport) → AreReported infer w alone xs rs → IsColumnReport infer w alone x.0.0 x.0.1 x.1 r
    → AreReported infer w alone (xs ++ x ∷ []) (rs ++ r ∷ [])
reported_more infer w alone [] [] x r are is = (is, tt)
reported_more infer w alone (y ∷ xs) (s ∷ rs) x r are is = (are.0, reported_more infer w alone xs rs x r are.1 is)
reported_more infer w alone [] (s ∷ rs) x r are is = absurd are
reported_more infer w alone (y ∷ xs) [] x r are is = absurd are

pub reported_next : (infer : Bool) (w : Weighing) (alone : Bool) (xs : List Given) (rs new : List ColumnReport) (x : Given) (r : ColumnReport) → AreReported infer w alone (map viewed xs) rs
    → IsColumnReport infer w alone (column_tree x.0.0) (known_view x.0.1) (told_view x.1) r → new ≡ rs ++ r ∷ [] → AreReported infer w alone (map viewed (xs ++ x ∷ [])) new
reported_next infer w alone xs rs new x r are is pushed =
    subst (AreReported infer w alone (map viewed (xs ++ x ∷ []))) (sym pushed)
    (subst (λ ts. AreReported infer w alone ts (rs ++ r ∷ [])) (sym (map-append viewed xs (x ∷ []))) (reported_more infer w alone (map viewed xs) rs (viewed x) r are is))

-- the lines that are still to come stand behind those that were written
abbrev pub ColumnsFrom : Option Text → List ColumnReport → ℕ → Text → Type 0
ColumnsFrom file rs i text = text ++ lines_of file i (drop i rs) ≡ lines_of file 0 rs

module _ (file : Option Text) (rs : List ColumnReport) (i : ℕ) (text : Text) (so_far : ColumnsFrom file rs i text) where
  pub goes_on : (r : ColumnReport) → i < length rs → r ≡ get_or rs i r → (next : Text) → next ≡ text ++ line_of file i r → ColumnsFrom file rs (i + 1) next
  goes_on r lt is next same =
      let rest = lines_of file (i + 1) (drop (i + 1) rs) in
      let here = at_drop_more (λ ys. text ++ lines_of file i ys) rs i r lt in
      ap (λ t. t ++ rest) same ∙ append_assoc text (line_of file i r) rest
      ∙ ap (λ (x : ColumnReport). text ++ (line_of file i x ++ rest)) is ∙ sym here ∙ so_far

  pub ends : length rs ≤ i → text ≡ lines_of file 0 rs
  ends past = sym (append-nil text) ∙ ap (λ ys. text ++ lines_of file i ys) (sym (drop_all i rs past)) ∙ so_far

  -- what was written is no longer than all
  pub is_part : length text ≤ length (lines_of file 0 rs)
  is_part = omega (arith, ap length so_far, length-append text (lines_of file i (drop i rs)))
