-- Elements one after the other, each with all that is below it.
use Rattle.std.proofs.Common.{◌≡◌, ℕ, suc, ◌+◌, ◌-◌, ◌<◌, ◌≤◌, List, [], ◌∷◌, ◌++◌, length, get_or, map, Some, Result, Ok, Err, refl, sym, ap, subst, ◌∙◌, arith, append_assoc, append-nil}
use Rattle.std.specs.List.{slice_get}
use Rattle.std.proofs.lemmas.Option.{slice_get-map, slice_get_past, slice_get_read}
use Rattle.parquet_footer.specs.declared.element.SchemaElement.{SchemaElement}
use Rattle.parquet_footer.specs.Element.{Element, element}
use Rattle.parquet_columns.specs.declared.fault.ElementFault.{ElementFault}
use Rattle.parquet_columns.specs.declared.fault.SchemaRule.TheVariants.{Children, Depth}
use Rattle.parquet_columns.specs.declared.fault.ColumnsError.{ColumnsError}
use Rattle.parquet_columns.specs.declared.fault.ColumnsError.TheVariants.{Broken, OutOfMemory}
use Rattle.parquet_columns.specs.declared.leaf.LeafTypes.{LeafTypes}
use Rattle.parquet_columns.specs.Fault.{◌>>=◌, Says}
use Rattle.parquet_columns.specs.Nodes.{NodeTree}
use Rattle.parquet_columns.specs.Columns.{HeadTree, element_at, head_at, children_of, finished, nodes_by, node_at}

-- an error was handed on
pub said : {X A : Type 0} (view : X → A) (there : Result A ElementFault) (r : Result X ColumnsError) (e : ColumnsError) → r ≡ Err e → Says view there (Err e) → Says view there r
said view there (Ok x) e is f = absurd (cc)
said view there (Err d) e is f = let same : e ≡ d = cc in subst (λ e. Says view there (Err e)) same f

-- an error of the first step
pub first_fails : {X Y A B : Type 0} (view : X → A) (over : Y → B) (step : Result A ElementFault) (rest : A → Result B ElementFault) (e : ColumnsError) → Says view step (Err e) → Says over (step >>= rest) (Err e)
first_fails view over step rest (Broken fault) f = ap (λ r. r >>= rest) f
first_fails view over step rest OutOfMemory f = tt

-- the element with an index
pub there_is : (xs : List SchemaElement) (at : ℕ) (x : SchemaElement) → at < length xs → x ≡ get_or xs at x → element_at at (slice_get (map element xs) at) ≡ Ok (element x)
there_is xs at x lt is =
    let found : slice_get xs at ≡ Some x = slice_get_read xs (length xs) at x refl lt is in
    rw (slice_get-map element xs at, found) refl

pub none_is : (xs : List SchemaElement) (at : ℕ) → length xs ≤ at → element_at at (slice_get (map element xs) at) ≡ Err (record { rule = Children; at = at })
none_is xs at past = rw (slice_get-map element xs at, slice_get_past xs at past) refl

-- an element, by what it says and what is below it
module _ (types : LeafTypes) (es : List Element) (at : ℕ) where
  pub too_deep : (levels : ℕ) → levels ≡ 0 → node_at types levels es at ≡ Err (record { rule = Depth; at = at })
  unfolding node_at
  too_deep levels none = rw none refl

  abbrev rest : ℕ → HeadTree → Result (NodeTree × ℕ) ElementFault
  rest levels h = nodes_by (node_at types levels es) (at + 1) (children_of h.kind) >>= λ below. finished types at h below.0 >>= λ n. Ok (n, below.1)

  next : (levels : ℕ) → 0 < levels → node_at types levels es at ≡ (head_at es at >>= rest (levels - 1))
  unfolding node_at
  next levels some =
      let k : levels ≡ suc (levels - 1) = omega arith in
      let here : node_at types (suc (levels - 1)) es at ≡ (head_at es at >>= rest (levels - 1)) = refl in
      ap (λ d. node_at types d es at) k ∙ here

  pub no_head : (levels : ℕ) (fault : ElementFault) → 0 < levels → head_at es at ≡ Err fault → node_at types levels es at ≡ Err fault
  no_head levels fault some e = next levels some ∙ ap (λ r. r >>= rest (levels - 1)) e

  module _ (h : HeadTree) (says : head_at es at ≡ Ok h) (levels : ℕ) (some : 0 < levels) (count : ℕ) (many : count ≡ children_of h.kind) where
    abbrev below : Result (List NodeTree × ℕ) ElementFault
    below = nodes_by (node_at types (levels - 1) es) (at + 1) count

    abbrev ends : List NodeTree × ℕ → Result (NodeTree × ℕ) ElementFault
    ends b = finished types at h b.0 >>= λ n. Ok (n, b.1)

    whole : node_at types levels es at ≡ (below >>= ends)
    whole = next levels some ∙ ap (λ r. r >>= rest (levels - 1)) says ∙ ap (λ n. nodes_by (node_at types (levels - 1) es) (at + 1) n >>= ends) (sym many)

    pub nodes_fail : {X Y : Type 0} (view : X → List NodeTree × ℕ) (over : Y → NodeTree × ℕ) (e : ColumnsError) → Says view below (Err e) → Says over (node_at types levels es at) (Err e)
    nodes_fail view over e f = subst (λ r. Says over r (Err e)) (sym whole) (first_fails view over below ends e f)

    module _ (b : List NodeTree × ℕ) (are : below ≡ Ok b) where
      then_ends : node_at types levels es at ≡ ends b
      then_ends = whole ∙ ap (λ r. r >>= ends) are

      pub finish_fails : {X Y : Type 0} (view : X → NodeTree) (over : Y → NodeTree × ℕ) (e : ColumnsError) → Says view (finished types at h b.0) (Err e) → Says over (node_at types levels es at) (Err e)
      finish_fails view over e f = subst (λ r. Says over r (Err e)) (sym then_ends) (first_fails view over (finished types at h b.0) (λ n. Ok (n, b.1)) e f)

      pub is_node : (n : NodeTree) → finished types at h b.0 ≡ Ok n → node_at types levels es at ≡ Ok (n, b.1)
      is_node n is = then_ends ∙ ap (λ (r : Result NodeTree ElementFault). r >>= λ n. Ok (n, b.1)) is

-- elements that were read before, and those that are still read
abbrev pub with_front : List NodeTree → Result (List NodeTree × ℕ) ElementFault → Result (List NodeTree × ℕ) ElementFault
with_front front there = there >>= λ x. Ok (front ++ x.0, x.1)

pub starts : (there : Result (List NodeTree × ℕ) ElementFault) → with_front [] there ≡ there
starts (Ok x) = refl
starts (Err e) = refl

regroup : (front : List NodeTree) (n : NodeTree) (there : Result (List NodeTree × ℕ) ElementFault) → with_front front (there >>= λ o. Ok (n ∷ o.0, o.1)) ≡ with_front (front ++ n ∷ []) there
regroup front n (Ok x) = ap (λ (ys : List NodeTree). Ok (ys, x.1)) (simp append_assoc)
regroup front n (Err e) = refl

module _ (read : ℕ → Result (NodeTree × ℕ) ElementFault) (front : List NodeTree) (at i count : ℕ) (total : Result (List NodeTree × ℕ) ElementFault)
    (so_far : with_front front (nodes_by read at (count - i)) ≡ total) where
  module _ (more : i < count) where
    turn : nodes_by read at (count - i) ≡ (read at >>= λ x. nodes_by read x.1 (count - (i + 1)) >>= λ o. Ok (x.0 ∷ o.0, o.1))
    unfolding nodes_by
    turn =
        let k : count - i ≡ suc (count - (i + 1)) = omega arith in
        rw k refl

    pub fails : {X Y : Type 0} (view : X → NodeTree × ℕ) (over : Y → List NodeTree × ℕ) (e : ColumnsError) → Says view (read at) (Err e) → Says over total (Err e)
    fails view over (Broken fault) f = sym so_far ∙ ap (with_front front) (turn ∙ ap (λ r. r >>= λ x. nodes_by read x.1 (count - (i + 1)) >>= λ o. Ok (x.0 ∷ o.0, o.1)) f)
    fails view over OutOfMemory f = tt

    pub goes_on : (x : NodeTree × ℕ) → read at ≡ Ok x → with_front (front ++ x.0 ∷ []) (nodes_by read x.1 (count - (i + 1))) ≡ total
    goes_on x is =
        let here : nodes_by read at (count - i) ≡ (nodes_by read x.1 (count - (i + 1)) >>= λ o. Ok (x.0 ∷ o.0, o.1)) = turn ∙ ap (λ r. r >>= λ x. nodes_by read x.1 (count - (i + 1)) >>= λ o. Ok (x.0 ∷ o.0, o.1)) is in
        sym (regroup front x.0 (nodes_by read x.1 (count - (i + 1)))) ∙ ap (with_front front) (sym here) ∙ so_far

  pub is_done : count ≤ i → total ≡ Ok (front, at)
  unfolding nodes_by
  is_done past =
      let k : count - i ≡ 0 = omega arith in
      let here : with_front front (nodes_by read at (count - i)) ≡ Ok (front, at) = rw k (ap (λ (ys : List NodeTree). Ok (ys, at)) (append-nil front)) in
      sym so_far ∙ here
