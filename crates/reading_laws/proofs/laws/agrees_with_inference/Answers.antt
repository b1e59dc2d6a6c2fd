use Rattle.std.proofs.Common.{◌≡◌, Option, Some, subst}
use Rattle.arrow_values.specs.Tree.{Tree}
use Rattle.arrow_values.specs.View.{tree}
use Rattle.geoarrow_layout.specs.declared.native_kinds.Kind.{Kind}
use Rattle.geoarrow_layout.specs.Inferred.{InferredAs, YieldsInferred}
use Rattle.reading_laws.proofs.Agreement.{agrees_with_inference, whole_inferred, infers_no_odd_text}
use Rattle.reading_laws.proofs.laws.agrees_with_inference.Goals as goal

one_of : (r : Option Kind) (j k : Kind) → r ≡ Some j → r ≡ Some k → j ≡ k
one_of r j k h g = cc

-- one kind is inferred, where one answer says which
one_answer : (t u : Tree) (r : Option Kind) → YieldsInferred t r → t ≡ u → (j k : Kind) → InferredAs u j → InferredAs u k → j ≡ k
one_answer t u r answers same j k h g =
    let answer : YieldsInferred u r = subst (λ x. YieldsInferred x r) same answers in
    one_of r j k ((answer j).1 h) ((answer k).1 g)

pub returns-clause-types : goal.returns-clause-types
returns-clause-types c = agrees_with_inference c.args.field.now c.metadata_is_unique.ensures.values (one_answer (tree c.data_type.result.now) c.args.field.now.tree c.infer_kind.result c.infer_kind.ensures c.data_type.ensures) c.args._finding.now

pub returns-clause-whole : goal.returns-clause-whole
returns-clause-whole c = λ infer. whole_inferred c.args.field.now infer c.args._finding.now

pub returns-clause-odd : goal.returns-clause-odd
returns-clause-odd c = infers_no_odd_text c.args.field.now
