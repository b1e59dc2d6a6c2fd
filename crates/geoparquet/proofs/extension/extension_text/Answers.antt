use Rattle.std.proofs.Common.{◌≡◌, None, IfOk, codes, string_bytes, sym, ap, ◌∙◌, subst, arith}
use Rattle.json.specs.Value.{value_view}
use Rattle.geoparquet.specs.Extensions.{crs_of, edges_of, text_at, text_with}
use Rattle.geoparquet.proofs.KeptMembers.{member_is_read, shallower}
use Rattle.geoparquet.proofs.extension.extension_text.Goals as goal

pub text_with-requires-clause-read : goal.text_with-requires-clause-read
text_with-requires-clause-read c = member_is_read (codes "crs") (value_view c.args.member.now) (value_view c.in-Some.crs.now) c.requires (sym c.in-Some.ensures.value)

pub text_with-requires-clause-shallow : goal.text_with-requires-clause-shallow
text_with-requires-clause-shallow c =
    let less = shallower (codes "crs") (value_view c.args.member.now) (value_view c.in-Some.crs.now) (sym c.in-Some.ensures.value) in
    omega (arith, less, c.requires.0.1)

pub returns-in-None : goal.returns-in-None
returns-in-None c =
    let edges = c.edges_of-edges.ensures ∙ ap edges_of c.text_at.ensures in
    let text = ap (text_with (crs_of None)) edges ∙ ap (λ o. text_with (crs_of o) (edges_of (text_at (codes "edges") (value_view c.args.member.now)))) c.in-None.ensures.value in
    subst (λ s. IfOk c.metadata_text.result (λ made. string_bytes made ≡ s)) text c.metadata_text.ensures.text
