use Rattle.std.proofs.Common.{◌≡◌, ◌∷◌, ◌++◌, ◌<◌, ◌^◌, List, ℕ, length, ap, ◌∙◌}
use Rattle.std.proofs.Common.{arith, rules}
use Rattle.std.proofs.Common.{string_bytes}
use Rattle.arrow_values.specs.View.{texts_of}
use Rattle.record_wire.specs.Write.{word}
use Rattle.record_writer.specs.Writes.{RefusesRoom}
use Rattle.record_writer.specs.declared.error.Refusal.{Refusal}
use Rattle.record_writer.proofs.Entries.{written_begins, written_more, all_written, IsEntry}
use Rattle.record_writer.proofs.Entries.{text_refused, count_refused}
use Rattle.record_writer.proofs.texts.metadata_of.Goals as goal

pub returns-in_err-count-clause-err : goal.returns-in_err-count-clause-err
returns-in_err-count-clause-err c = grind (arith, count_refused)

pub entries-init : goal.entries-init
entries-init c =
    let es = c.args.texts.now.entries in
    let all : c.into_iter-key-iterator.result ≡ es = search rules in
    let many : c.in_ok-count.count ≡ length es = grind arith in
    let is : c.put_word.new.bytes.items ≡ word c.in_ok-count.count =
    c.in_ok-put_word.ensures
    ∙ ap (λ (l : List ℕ). l ++ word c.in_ok-count.count) c.new-bytes.ensures.items in
    written_begins _ es _ c.in_ok-count.count all many is

pub entries-preserved : goal.entries-preserved
entries-preserved c =
    let k = c.as_str.result.now in let t = c.as_str-in-entries.result.now in
    let step = ap texts_of c.in-Some.ensures.steps in
    let turn : texts_of c.entries.key-iterator ≡ (k, t) ∷ texts_of c.next.new.self =
    cc (step, c.as_str.ensures.value, c.as_str-in-entries.ensures.value) in
    let one : IsEntry (k, t) = record {
      key = c.in_ok-put_text.ensures.valid;
      text = c.in_ok-put_text-2.ensures.valid;
      short_key = c.in_ok-put_text.ensures.small;
      short_text = c.in_ok-put_text-2.ensures.small;
    } in
    written_more _ _ _ k t _ _ (rw turn at c.entries.invariant) c.in_ok-put_text.ensures.is
    c.in_ok-put_text-2.ensures.is one

pub returns-in_err-put_text-clause-err : goal.returns-in_err-put_text-clause-err
returns-in_err-put_text-clause-err c =
    let es = c.args.texts.now.entries in
    let all : c.into_iter-key-iterator.result ≡ es = search rules in
    let k = c.as_str.result.now in let t = string_bytes c.in-Some.text.now in
    let step = ap texts_of c.in-Some.ensures.steps in
    let turn : texts_of c.entries.key-iterator ≡ (k, t) ∷ texts_of c.next.new.self =
    cc (step, c.as_str.ensures.value) in
    let w = rw (turn, all) at c.entries.invariant in
    let refused = λ (e : Refusal) (r : RefusesRoom e (length k)).
    text_refused e _ (k, t) _ _ (length k) w (omega arith) r in
    grind (arith, refused)

pub returns-in_err-put_text-2-clause-err : goal.returns-in_err-put_text-2-clause-err
returns-in_err-put_text-2-clause-err c =
    let es = c.args.texts.now.entries in
    let all : c.into_iter-key-iterator.result ≡ es = search rules in
    let k = c.as_str.result.now in let t = c.as_str-in-entries.result.now in
    let step = ap texts_of c.in-Some.ensures.steps in
    let turn : texts_of c.entries.key-iterator ≡ (k, t) ∷ texts_of c.next.new.self =
    cc (step, c.as_str.ensures.value, c.as_str-in-entries.ensures.value) in
    let w = rw (turn, all) at c.entries.invariant in
    let refused = λ (e : Refusal) (r : RefusesRoom e (length t)).
    text_refused e _ (k, t) _ _ (length t) w (omega arith) r in
    grind (arith, refused)

pub returns-clause-read : goal.returns-clause-read
returns-clause-read c =
    let es = c.args.texts.now.entries in
    let all : c.into_iter-key-iterator.result ≡ es = search rules in
    let some : 0 < length es = grind arith in
    let few : length es < 2 ^ 32 = grind arith in
    (all_written _ es (rw (c.in-None.ensures.steps.0, all) at c.entries.invariant)
    c.iter-key-items.ensures.ordered some few).1
