use Rattle.std.proofs.Common.{◌≡◌, IfOk, option_map, subst}
use Rattle.json.specs.Json.{Json}
use Rattle.json.specs.Value.{value_view}
use Rattle.crs_identity.specs.Verdicts.{claim}
use Rattle.geoparquet.specs.CrsClaims.{own_crs_in}
use Rattle.geoparquet.specs.FactSources.{BySource}
use Rattle.geoparquet.specs.Facts.{crs_fact_of, crs_view}
use Rattle.geoparquet.proofs.crs_facts.crs_fact_said.Goals as goal

pub returns : goal.returns
returns c =
    let js : BySource Json = record {
      element = option_map (λ v. value_view v.now) c.args.element;
      geo = option_map (λ v. value_view v.now) c.args.geo;
      field = option_map (λ v. value_view v.now) c.args.field;
    } in
    subst (λ e. IfOk c.crs_fact_claimed.result (λ fact. option_map crs_view fact ≡ crs_fact_of js (record { element = e; geo = option_map claim c.args.said; field = own_crs_in js.field })))
    c.in_ok-claimed.ensures c.crs_fact_claimed.ensures
