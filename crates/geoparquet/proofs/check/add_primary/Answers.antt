use Rattle.std.proofs.Common.{◌≡◌, ◌++◌, ◌∷◌, [], None, OnOk, codes, false, map, subst, sym, ◌∙◌}
use Rattle.json.specs.Find.{get}
use Rattle.json.specs.Value.{value_view}
use Rattle.geoparquet.specs.Findings.{finding}
use Rattle.geoparquet.specs.GeoFindings.{has_primary}
use Rattle.geoparquet.specs.Rules.{found_at, unless}
use Rattle.geoparquet.specs.declared.code.GeoCode.TheVariants.{PrimaryColumn}
use Rattle.geoparquet.proofs.check.add_primary.Goals as goal

pub returns : goal.returns
returns c =
    let j = value_view c.args.value.now in
    let no : has_primary j ≡ false = sym c.has_primary.ensures ∙ c.if-has_primary.false in
    let added = subst (λ o. OnOk c.add_at.result (map finding c.add_at.new.findings.items ≡ map finding c.args.findings.now.items ++ found_at PrimaryColumn None (codes "/primary_column") o None ∷ []))
    c.member_of-found.ensures.value c.add_at.ensures in
    subst (λ b. OnOk c.add_at.result (map finding c.add_at.new.findings.items ≡ map finding c.args.findings.now.items ++ unless b (found_at PrimaryColumn None (codes "/primary_column") (get (codes "primary_column") j) None)))
    (sym no) added
