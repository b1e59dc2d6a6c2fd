use Rattle.std.proofs.Common.{◌≡◌, option_map, ap, ◌∙◌, arith}
use Rattle.arrow_columns.specs.Column.{column_tree}
use Rattle.parquet_footer.specs.Element.{element}
use Rattle.parquet_columns.specs.Budget.{size_of}
use Rattle.parquet_columns.specs.Geometry.{given, marked_by}
use Rattle.parquet_columns.specs.Claims.{claim, claim_of, claim_size}
use Rattle.parquet_columns.proofs.marks.marked.Goals as goal

pub returns-then-amount-size-clause-made : goal.returns-then-amount-size-clause-made
returns-then-amount-size-clause-made c =
    let child = option_map (λ x. element x.now) c.args.child in
    let column = column_tree c.args.column in
    let said : claim c.in_ok-said.said ≡ claim_of c.args.values.now child column = c.in_ok-said.ensures.made ∙ ap (λ v. claim_of v child column) c.in_ok-text.ensures.same in
    let size : c.size_of.result ≡ size_of (given c.args.values.now child column) = c.size_of.ensures ∙ ap size_of c.in_ok-text.ensures.text in
    let rest : c.claim_size.result ≡ claim_size (claim_of c.args.values.now child column) = c.claim_size.ensures ∙ ap claim_size said in
    omega (arith, size, rest)

pub returns-clause-made : goal.returns-clause-made
returns-clause-made c =
    let child = option_map (λ x. element x.now) c.args.child in
    let column = column_tree c.args.column in
    let said : claim c.in_ok-said.said ≡ claim_of c.args.values.now child column = c.in_ok-said.ensures.made ∙ ap (λ v. claim_of v child column) c.in_ok-text.ensures.same in
    let size : c.size_of.result ≡ size_of (given c.args.values.now child column) = c.size_of.ensures ∙ ap size_of c.in_ok-text.ensures.text in
    let rest : c.claim_size.result ≡ claim_size (claim_of c.args.values.now child column) = c.claim_size.ensures ∙ ap claim_size said in
    (c.in_ok-new.ensures ∙ ap (λ t. marked_by t column) c.in_ok-text.ensures.text, said, omega (arith, size, rest))
