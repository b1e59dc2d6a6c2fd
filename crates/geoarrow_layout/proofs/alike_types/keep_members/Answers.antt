use Rattle.geoarrow_layout.proofs.Lemmas.{Dimension, GeometryMember, Member, filled_kept}
use Rattle.geoarrow_layout.proofs.alike_types.keep_members.Goals as goal

pub returns-clause-geometry : goal.returns-clause-geometry
returns-clause-geometry c = λ some b h. filled_kept (λ i t. (d : Dimension) × GeometryMember i t b d) c.args.ids.now c.args.members.now c.retain_ids.new.self c.retain_ids.ensures.members some h

pub returns-clause-mixed : goal.returns-clause-mixed
returns-clause-mixed c = λ some b d h. filled_kept (λ i t. Member i t b d) c.args.ids.now c.args.members.now c.retain_ids.new.self c.retain_ids.ensures.members some h
