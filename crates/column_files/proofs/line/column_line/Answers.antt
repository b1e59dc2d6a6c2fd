use Rattle.std.proofs.Common.{◌≡◌, Some, IfOk, string_bytes, sym, ap, subst, ◌∙◌, rules}
use Rattle.arrow_values.specs.Tree.{Text}
use Rattle.arrow_columns.specs.Column.{type_tree, column_of, column_tree}
use Rattle.arrow_columns.specs.Types.{ColumnTree, TypeTree, leaf}
use Rattle.arrow_columns.specs.declared.column.AnyType.TheVariants.{Other}
use Rattle.column_files.specs.ColumnLines.{FitsLine, FitsWith}
use Rattle.field_lines.specs.ColumnOfValue.{column_of_line}
use Rattle.column_files.proofs.ColumnRead.{other_line_read, field_line_read}
use Rattle.column_files.proofs.line.column_line.Goals as goal

abbrev column : ColumnTree → Text → TypeTree → ColumnTree
column c n d = record { name = n; data_type = d; nullable = c.nullable; metadata = c.metadata }

pub returns-in-Other-clause-reads_back : goal.returns-in-Other-clause-reads_back
returns-in-Other-clause-reads_back c =
    let whole = column_tree c.args.column in
    let n = c.as_str.result.now in
    let t = c.as_str-notation.result.now in
    let name_is : string_bytes c.args.column.name ≡ n = search rules in
    let notation_is : string_bytes c.in-Other.other.notation ≡ t = search rules in
    let type_is : type_tree c.args.column.data_type ≡ type_tree (Other c.in-Other.other) = ap type_tree c.in-Other.is in
    let is : FitsLine whole → whole ≡ column whole n (leaf t) =
    λ fits. ap (column whole whole.name) (type_is ∙ subst (FitsWith whole) type_is fits ∙ ap leaf notation_is) ∙ ap (λ n. column whole n (leaf t)) name_is in
    other_line_read n t whole.nullable whole.metadata whole (FitsLine whole) (λ fits. c.written_other_is_read.ensures n t whole.nullable whole.metadata ∙ ap Some (sym (is fits))) c.other_line.result c.other_line.ensures.reads_back

pub returns-in-Data-clause-reads_back : goal.returns-in-Data-clause-reads_back
returns-in-Data-clause-reads_back c =
    let whole = column_tree c.args.column in
    let f = c.from_parts-field.result in
    let is : column_of f ≡ whole = ap column_of c.from_parts-field.ensures ∙ sym (ap (column whole whole.name) (ap type_tree c.in-Data.is)) in
    subst (λ (x : ColumnTree). IfOk c.field_line-line.result (λ s. FitsLine x → column_of_line (string_bytes s) ≡ Some x)) is
    (field_line_read c.field_is_column.ensures f c.field_line-line.result c.field_line-line.ensures.reads_back)
