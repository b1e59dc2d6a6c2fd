use Rattle.std.proofs.Common.{codes, sym, ap, ◌∙◌}
use Rattle.std.specs.Cmp.{unsigned_Decides}
use Rattle.std.specs.Str.{bytes_eq}
use Rattle.std.proofs.lemmas.Slice.Eq.{strip_suffix_is}
use Rattle.parquet_columns.proofs.Shapes.{named_by, named_otherwise}
use Rattle.parquet_columns.proofs.nodes.is_item_name.Goals as goal

pub returns-in-Some : goal.returns-in-Some
returns-in-Some c =
    let name = c.args.name.now in
    let front = c.in-Some.front.now in
    let ends = rw c.in-Some.is at (strip_suffix_is unsigned_Decides name (codes "_tuple") c.strip_suffix.result c.strip_suffix.ensures.cases) in
    let other = ap (bytes_eq name) (sym c.as_bytes.ensures.value) ∙ sym c.eq.ensures ∙ c.if-eq.false in
    c.eq-in-Some.ensures ∙ named_by c.args.list.now name other front ends

pub returns-in-None : goal.returns-in-None
returns-in-None c =
    let name = c.args.name.now in
    let no_end = rw c.in-None.is at (strip_suffix_is unsigned_Decides name (codes "_tuple") c.strip_suffix.result c.strip_suffix.ensures.cases) in
    let other = ap (bytes_eq name) (sym c.as_bytes.ensures.value) ∙ sym c.eq.ensures ∙ c.if-eq.false in
    named_otherwise c.args.list.now name other no_end
