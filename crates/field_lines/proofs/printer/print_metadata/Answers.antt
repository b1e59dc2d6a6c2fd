use Rattle.std.proofs.Common.{◌≡◌, [], subst, sym, arith, rules}
use Rattle.std.proofs.lemmas.Grind.{common_steps}
use Rattle.value_tokens.specs.Adds.{Adds}
use Rattle.value_tokens.proofs.Adding.{sent, then}
use Rattle.field_lines.proofs.Prints.{finished, prints_metadata, texts_tokens}
use Rattle.field_lines.proofs.ReadBack.{texts_read_back}
use Rattle.field_lines.proofs.printer.print_metadata.Goals as goal

pub loop-key-preserved : goal.loop-key-preserved
loop-key-preserved c end rest =
    let this = then (sent c.in_ok-key-2.ensures) (then (sent c.in_ok-string.ensures) rest) in
    c.loop-key.invariant end (subst (λ texts. Adds (texts_tokens texts) c.loop-key.out end) (sym c.in-Some.ensures.steps) (rw (← c.as_str.ensures.value, ← c.as_str-in-loop-key.ensures.value) this))

pub returns : goal.returns
returns c =
    let texts = c.args.metadata.now.entries in
    let some : texts ≡ [] → ⊥ = grind (arith, common_steps) in
    let all : c.into_iter-key-iterator.result ≡ texts = search rules in
    finished _ (λ e.
    let left = subst (λ left. Adds (texts_tokens left) c.loop-key.out c.end_object.new.self) (sym c.in-None.ensures.steps.0) e in
    let whole = subst (λ left. Adds (texts_tokens left) c.begin_object.new.self c.end_object.new.self) all (c.loop-key.invariant c.end_object.new.self left) in
    prints_metadata texts some (sent c.in_ok-key.ensures)
    (record { adds = then (sent c.in_ok-begin_object.ensures) whole; reads_back = texts_read_back texts c.iter-key-items.ensures.ordered })) c.end_object.ensures
