use Rattle.geoparquet.specs.Facts.{crs_claims, json_sources}
use Rattle.std.proofs.Common.{Some}
use Rattle.geoparquet.proofs.CountingSources.{counts}
use Rattle.geoparquet.proofs.fact_laws.columns_are_judged_by_facts.Goals as goal

pub returns : goal.returns
returns c = λ version t e j. counts (crs_claims version e (json_sources (Some j) t e))
