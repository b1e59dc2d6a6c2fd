use Rattle.std.proofs.Common.{◌≡◌, ℕ, List, map, Option, Some, Result, Ok, Err, Vec, Global, refl, sym, subst, ap, ◌∙◌, arith}
use Rattle.parquet_footer.specs.Element.{Element, element}
use Rattle.parquet_columns.specs.declared.fault.ElementFault.{ElementFault}
use Rattle.parquet_columns.specs.Fault.{◌>>=◌, Says}
use Rattle.parquet_columns.specs.declared.places.Child as declared
use Rattle.parquet_columns.specs.Places.{Child, child, children_of_root}
use Rattle.parquet_columns.specs.Columns.{ColumnTrees, column_trees, columns_at, columns_below}
use Rattle.parquet_columns.proofs.Walks.{said, first_fails}
use Rattle.parquet_columns.proofs.columns.columns_below.Goals as goal

-- what the call returns, as its contract sees it
abbrev several : Vec declared.Child Global → List Child
several v = map child v.items

-- where the root says how many children it has
of_root : (es below : List Element) (count : Option ℕ) (n : ℕ) → count ≡ Some n → columns_below es count below ≡ (children_of_root n below >>= λ cs. Ok (columns_at es cs))
of_root es below count n is = rw is refl

pub returns-in_err-children-in-Some : goal.returns-in_err-children-in-Some
returns-in_err-children-in-Some c =
    let es : List Element = map element c.args.elements.now in
    let below : List Element = map element c.args.below.now in
    let there = children_of_root c.in-Some.count below in
    let e = c.in_err-children-in-Some.field-0.0 in
    said column_trees (columns_below es c.args.count below) c.from_residual.result e (grind arith)
    (subst (λ r. Says column_trees r (Err e)) (sym (of_root es below c.args.count c.in-Some.count c.in-Some.is))
    (first_fails several column_trees there (λ cs. Ok (columns_at es cs)) e c.in_err-children-in-Some.ensures))

pub returns-in_ok-columns_at-in-Some : goal.returns-in_ok-columns_at-in-Some
returns-in_ok-columns_at-in-Some c =
    let es : List Element = map element c.args.elements.now in
    let below : List Element = map element c.args.below.now in
    let seen : columns_at es (map child c.as_slice.result.now) ≡ columns_at es (map child c.in_ok-children-in-Some.children.items) = ap (λ xs. columns_at es (map child xs)) c.as_slice.ensures.value in
    of_root es below c.args.count c.in-Some.count c.in-Some.is
    ∙ ap (λ (r : Result (List Child) ElementFault). r >>= λ cs. Ok (columns_at es cs)) c.in_ok-children-in-Some.ensures
    ∙ ap (λ (made : ColumnTrees). Ok made) (sym (c.in_ok-columns_at-in-Some.ensures ∙ seen))
