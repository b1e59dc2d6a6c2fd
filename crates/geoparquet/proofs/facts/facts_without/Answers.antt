use Rattle.std.proofs.Common.{◌≡◌, [], Global, IfOk, map, refl, rules, subst, sym, arith}
use Rattle.json.specs.Json.{null}
use Rattle.json.specs.Value.{value_view}
use Rattle.json.specs.declared.value.Value.{Null, the_lemmas}
use Rattle.serde_json.specs.Data as own
use Rattle.geoparquet.specs.Extensions.{IsRead}
use Rattle.geoparquet.specs.Facts.{facts_behind, facts_view}
use Rattle.geoparquet.specs.Sources.{sourced}
use Rattle.geoparquet.proofs.facts.facts_without.Goals as goal

view-Null : value_view {A = Global} Null ≡ null
view-Null = search (rules, the_lemmas)

null_is_read : IsRead null
null_is_read = ((tt, omega arith), (own.null, refl))

pub facts_by-requires : goal.facts_by-requires
facts_by-requires c = subst IsRead (sym view-Null) null_is_read

pub returns : goal.returns
returns c =
    subst (λ j. IfOk c.facts_by.result (λ facts. map facts_view facts.items ≡ facts_behind j [] (map sourced c.args.all.now))) view-Null c.facts_by.ensures
