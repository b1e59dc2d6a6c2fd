use Rattle.std.proofs.Common.{rules, ◌≡◌, ◌==◌, ◌||◌, ◌++◌, [], ◌∷◌, length, nat_eq, false, Some, None, codes, refl, sym, ap, ◌∙◌}
use Rattle.std.specs.List.{ends_with}
use Rattle.std.proofs.lemmas.Bool.Decides.{Decides-eqb}
use Rattle.std.proofs.lemmas.Slice.Eq.{strip_suffix_is}
use Rattle.arrow_values.specs.Tree.{Text}
use Rattle.column_check.proofs.Named.{is_empty, front_decides, no_front}
use Rattle.column_check.proofs.geometry_names.is_alone_or_behind.Goals as goal

some_stands : (t : Text) → (length t == 0) ≡ false → is_empty t ≡ false
some_stands [] h = absurd cc
some_stands (c ∷ cs) h = refl

pub returns-else-is_empty : goal.returns-else-is_empty
returns-else-is_empty c =
    let front = c.in-Some.front.now in
    let text = c.args.text.now in
    let name = c.args.name.now in
    let stripped = strip_suffix_is Decides-eqb c.as_bytes.result.now c.as_bytes-2.result.now (Some c.in-Some.front) c.in-Some.ensures.cases in
    let whole : text ≡ front ++ name = sym c.as_bytes.ensures.value ∙ stripped ∙ ap (λ n. front ++ n) c.as_bytes-2.ensures.value in
    let last : c.ends_with.result ≡ ends_with nat_eq front (codes "_") = search rules in
    let some : is_empty front ≡ false = some_stands front (sym c.is_empty.ensures ∙ c.if-is_empty.false) in
    last ∙ ap (λ b. b || ends_with nat_eq front (codes "_")) (sym some) ∙ front_decides text name front whole

pub returns-in-None : goal.returns-in-None
returns-in-None c =
    let text = c.args.text.now in
    let name = c.args.name.now in
    let none = strip_suffix_is Decides-eqb c.as_bytes.result.now c.as_bytes-2.result.now None c.in-None.ensures.cases in
    sym (no_front text name (λ front is. none front (c.as_bytes.ensures.value ∙ is ∙ ap (λ n. front ++ n) (sym c.as_bytes-2.ensures.value))))
