use Rattle.std.proofs.Common.{◌↔◌, IfOk, IsTrue, subst}
use Rattle.arrow_columns.specs.Column.{type_tree}
use Rattle.same_columns.specs.Aspects.{AreOneType}
use Rattle.same_columns.proofs.aspects.have_one_type.Goals as goal

pub returns : goal.returns
returns c =
    subst (λ b. IfOk c.are_one_type.result (λ same. IsTrue same ↔ AreOneType b (type_tree c.args.a.now.column.data_type) (type_tree c.args.b.now.column.data_type)))
    c.are_geometries-both.ensures c.are_one_type.ensures
