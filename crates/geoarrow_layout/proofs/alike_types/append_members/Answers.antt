use Rattle.geoarrow_layout.proofs.Lemmas.{Dimension, GeometryMember, Member, on_ok_weaker, filled_joined, joined_alike}
use Rattle.geoarrow_layout.proofs.alike_types.append_members.Goals as goal

pub returns-clause-geometry : goal.returns-clause-geometry
returns-clause-geometry c = on_ok_weaker c.append.result (λ e b. filled_joined (λ i t. (d : Dimension) × GeometryMember i t b d) c.args.members.now c.args.other c.append.new.self e) c.append.ensures.joined

pub returns-clause-mixed : goal.returns-clause-mixed
returns-clause-mixed c = on_ok_weaker c.append.result (λ e b d. filled_joined (λ i t. Member i t b d) c.args.members.now c.args.other c.append.new.self e) c.append.ensures.joined

pub returns-clause-alike : goal.returns-clause-alike
returns-clause-alike c = on_ok_weaker c.append.result (λ e all just. joined_alike c.args.members.now c.args.other c.append.new.self e all just) c.append.ensures.joined
