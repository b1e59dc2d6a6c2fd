use Rattle.std.proofs.Common.{option_map, sym, subst}
use Rattle.json.specs.Tree.{json_tokens}
use Rattle.value_tokens.specs.Adds.{Adds}
use Rattle.value_tokens.specs.Values.{or_null}
use Rattle.column_reports.proofs.Adding.{finished}
use Rattle.column_reports.proofs.fact_members.put_json.Goals as goal

pub returns-in-None : goal.returns-in-None
returns-in-None c =
    finished c.null.result
    (λ e. subst (λ v. Adds (json_tokens (or_null (option_map (λ w. w.now) v))) c.args.out.now c.null.new.self) (sym c.in-None.is) e) c.null.ensures
