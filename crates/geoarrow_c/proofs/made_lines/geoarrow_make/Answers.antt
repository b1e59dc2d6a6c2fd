use Rattle.std.proofs.Common.{arith, ◌≡◌, ◌≤◌, ◌∙◌, inl, inr, ap, subst}
use Rattle.arrow_columns.specs.Types.{ColumnTree}
use Rattle.field_makers.specs.Made.{CanBeMade, IsRefusedFor, made}
use Rattle.field_makers.specs.declared.error.MakeError.{MakeError}
use Rattle.field_makers.specs.declared.new_column.NewColumn.{NewColumn}
use Rattle.geoarrow_fields.specs.Lines.{Bytes}
use Rattle.geoarrow_c.specs.Canonical.{line_of}
use Rattle.geoarrow_c.specs.MadeLines.{IsMadeLine, IsUnmade, unmade_told, with_type}
use Rattle.geoarrow_c.specs.SchemaRecords.{IsLineOf}
use Rattle.geoarrow_c.proofs.Made.{makes_as}
use Rattle.geoarrow_c.proofs.made_lines.geoarrow_make.Goals as goal

-- the line of a column that is made
is_made : {Asked : NewColumn → Type 0} {line : Bytes} (column : ColumnTree) (asked new : NewColumn) → Asked asked → new ≡ with_type asked → CanBeMade new × (column ≡ made new)
    → line ≡ line_of column → IsMadeLine Asked line
is_made column asked new is same can e = record {
  new = asked;
  is_asked = is;
  can_be = subst CanBeMade same can.0;
  is = e ∙ ap line_of (can.1 ∙ ap made same);
}

-- the line that says why none is
is_unmade : {Asked : NewColumn → Type 0} {line : Bytes} (error : MakeError) (asked new : NewColumn) → Asked asked → new ≡ with_type asked → IsRefusedFor new error
    → IsLineOf (unmade_told error) line → IsUnmade Asked line
is_unmade error asked new is same refused e = record {
  new = asked;
  error = error;
  is_asked = is;
  is_refused = subst (λ n. IsRefusedFor n error) same refused;
  is = e;
}

pub returns-in-Ok-make_column-clause-done : goal.returns-in-Ok-make_column-clause-done
returns-in-Ok-make_column-clause-done c =
    λ done. makes_as
    (λ line is. is_made _ c.in-Some.asked c.in-Ok.new c.in-Some.ensures.0 c.in-Ok.ensures c.in-Ok-make_column.ensures is)
    (c.fill_line.ensures.done done)

pub returns-in-Ok-make_column-clause-short : goal.returns-in-Ok-make_column-clause-short
returns-in-Ok-make_column-clause-short c =
    λ short. makes_as
    (λ line is. inl (is_made _ c.in-Some.asked c.in-Ok.new c.in-Some.ensures.0 c.in-Ok.ensures c.in-Ok-make_column.ensures is))
    (c.fill_line.ensures.short short)

pub returns-in-Ok-make_column-clause-unknown : goal.returns-in-Ok-make_column-clause-unknown
returns-in-Ok-make_column-clause-unknown c =
    let small : c.fill_line.result ≤ 2 = c.fill_line.ensures.status in
    (λ e. absurd (omega arith), λ none. absurd (c.in-Some.ensures.1 none))

pub returns-in-Err-clause-short : goal.returns-in-Err-clause-short
returns-in-Err-clause-short c =
    λ short. makes_as
    (λ line is. inr (is_unmade c.in-Err.error c.in-Some.asked c.in-Ok.new c.in-Some.ensures.0 c.in-Ok.ensures c.in-Err.ensures is))
    (c.refuse_made.ensures.short short)

pub returns-in-Err-clause-refused : goal.returns-in-Err-clause-refused
returns-in-Err-clause-refused c =
    λ refused. makes_as
    (λ line is. is_unmade c.in-Err.error c.in-Some.asked c.in-Ok.new c.in-Some.ensures.0 c.in-Ok.ensures c.in-Err.ensures is)
    (c.refuse_made.ensures.refused refused)
