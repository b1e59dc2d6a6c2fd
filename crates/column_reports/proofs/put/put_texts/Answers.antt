use Rattle.std.proofs.Common.{arith, ◌≡◌, ◌+◌, [], ◌∷◌, ◌++◌, map, take, string_bytes, sym, ap, ◌∙◌, subst}
use Rattle.std.proofs.lemmas.List.{take_more, take_all}
use Rattle.std.proofs.lemmas.Simd.{map-map}
use Rattle.json.specs.Json.{string}
use Rattle.value_tokens.proofs.Adding.{sent}
use Rattle.column_reports.specs.Objects.{AddsValues}
use Rattle.column_reports.proofs.Adding.{finished, array, named, one, for, one_more}
use Rattle.column_reports.proofs.put.put_texts.Goals as goal

pub loop-text-preserved : goal.loop-text-preserved
loop-text-preserved c =
    let texts = c.args.texts.now in
    let i = c.loop-text.text-index in
    let taken : take (i + 1) texts ≡ take i texts ++ c.text-item.result ∷ [] = take_more texts i _ c.loop-text-test.true ∙ ap (λ x. take i texts ++ x ∷ []) (sym c.text-item.is) in
    let this = for (λ s. string s ∷ []) (one (string c.as_str.result.now) (sent c.in_ok-string.ensures)) c.as_str.ensures.value in
    one_more (λ t. string (string_bytes t)) texts i c.text-item.result taken c.loop-text.invariant this

pub returns : goal.returns
returns c =
    let texts = c.args.texts.now in
    let all : take c.loop-text.text-index texts ≡ texts = take_all c.loop-text.text-index texts (omega arith) in
    let strings : map (λ t. string (string_bytes t)) (take c.loop-text.text-index texts) ≡ map string (map string_bytes texts) = ap (map (λ t. string (string_bytes t))) all ∙ sym (map-map string string_bytes texts) in
    let values = subst (λ js. AddsValues js c.begin_array.new.self c.loop-text.out) strings c.loop-text.invariant in
    finished c.end_array.result (λ e. named (sent c.in_ok-key.ensures) (array (sent c.in_ok-begin_array.ensures) values e)) c.end_array.ensures
