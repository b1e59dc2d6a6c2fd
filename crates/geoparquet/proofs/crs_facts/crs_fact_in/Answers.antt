use Rattle.std.proofs.Common.{◌≡◌, IfOk, option_map, subst}
use Rattle.json.specs.Json.{Json}
use Rattle.json.specs.Value.{value_view}
use Rattle.geoparquet.specs.CrsClaims.{element_crs, own_crs_in}
use Rattle.geoparquet.specs.FactSources.{BySource}
use Rattle.geoparquet.specs.Facts.{crs_fact_of, crs_view}
use Rattle.geoparquet.specs.Sources.{element_view}
use Rattle.geoparquet.proofs.crs_facts.crs_fact_in.Goals as goal

pub returns : goal.returns
returns c =
    let js : BySource Json = record {
      element = option_map (λ v. value_view v.now) c.args.element;
      geo = option_map (λ v. value_view v.now) c.args.geo;
      field = option_map (λ v. value_view v.now) c.args.field;
    } in
    let e = option_map (λ x. element_view x.now) c.args.claim in
    subst (λ g. IfOk c.crs_fact_said.result (λ fact. option_map crs_view fact ≡ crs_fact_of js (record { element = element_crs e js.element; geo = g; field = own_crs_in js.field })))
    c.in_ok-said.ensures c.crs_fact_said.ensures
