use Rattle.std.proofs.Common.{◌≡◌, option_map, arith}
use Rattle.std.proofs.lemmas.Grind.{common_steps}
use Rattle.std.proofs.lemmas.Result.{on_ok_weaker}
use Rattle.value_tokens.proofs.Adding.{added, sent, then}
use Rattle.geoarrow_meta.specs.Read.{crs_type_text, edges_text}
use Rattle.geoarrow_meta.proofs.text.put_metadata.Goals as goal

pub returns : goal.returns
returns c =
    let opened = then (sent c.in_ok-begin_object.ensures) (sent c.in_ok-key.ensures) in
    let crs_type : option_map (λ w. w.now) c.map.result ≡ option_map crs_type_text c.args.crs_type = grind (arith, common_steps) in
    let edges : option_map (λ w. w.now) c.map-2.result ≡ option_map edges_text c.args.edges = grind (arith, common_steps) in
    rw (← crs_type, ← edges)
    (on_ok_weaker c.end_object.result (λ last. then opened (then c.in_ok-put_crs.ensures (then c.in_ok-put_word.ensures (then c.in_ok-put_word-2.ensures last))))
    (added c.end_object.result _ _ _ c.end_object.ensures))
