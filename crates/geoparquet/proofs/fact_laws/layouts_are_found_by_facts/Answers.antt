use Rattle.std.proofs.Common.{◌≡◌, Bool, true, false, not, Option, None, Some, refl}
use Rattle.arrow_columns.specs.Types.{ColumnTree}
use Rattle.arrow_values.specs.Tree.{Text}
use Rattle.geoparquet.specs.Contradictions.{encoding_layout_findings}
use Rattle.geoparquet.specs.Facts.{has_other_layout}
use Rattle.geoparquet.specs.Findings.{Finding}
use Rattle.geoparquet.specs.MemberFacts.{are_kept}
use Rattle.geoparquet.specs.MemberRules.{encoding_of}
use Rattle.geoparquet.specs.Rules.{unless}
use Rattle.geoparquet.specs.Sources.{Element}
use Rattle.geoparquet.specs.StrictLayouts.{is_laid_out}
use Rattle.geoparquet.proofs.fact_laws.layouts_are_found_by_facts.Goals as goal

none_unless : (kept : Bool) (f : Finding) → are_kept (unless kept f) ≡ not (not kept)
none_unless true f = refl
none_unless false f = refl

by_encoding : (key : Text) (c : ColumnTree) (e : Option Element) (o : Option Text) → are_kept (encoding_layout_findings key o (Some c) e) ≡ not (has_other_layout o c e)
by_encoding key c e None = refl
by_encoding key c e (Some s) = none_unless (is_laid_out s c e) _

pub returns : goal.returns
returns c = λ version key t e j. by_encoding key t e (encoding_of version j)
