use Rattle.geoparquet.specs.Facts.{facts_view}
use Rattle.file_check.proofs.Parts.{AllMetTo}
use Rattle.file_check.proofs.wants.unmet_part.Given as goal

abbrev pub invariant-loop-part : goal.invariant-loop-part
invariant-loop-part l = AllMetTo l.geometry.kind (facts_view l.facts) l.parts l.part-index
