use Rattle.geoarrow_layout.proofs.Lemmas.{on_ok_weaker, ◌-◌, arith, tree, level_leads}
use Rattle.geoarrow_layout.proofs.fault.+push_levels.Goals as goal

pub returns-in_ok-push-in-Some : goal.returns-in_ok-push-in-Some
returns-in_ok-push-in-Some t c =
    on_ok_weaker c.push_levels.result
    (level_leads c.args.width c.in-Some.found c.args.levels (c.args.levels - 1) (tree c.args.data_type.now) (tree c.in-Some.item.now) c.args.path.now.items c.push.new.self.items c.push_levels.new.path.items
    (omega arith) c.in-Some.ensures.0 c.in-Some.ensures.1 c.in_ok-push-in-Some.ensures.items) c.push_levels.ensures
