use Rattle.std.proofs.Common.{◌≡◌, ◌∙◌, ap, ◌++◌, ◌+◌, ◌≤◌, length, Ok}
use Rattle.std.specs.Str.{chars}
use Rattle.std.specs.Vec.{vec_len, vec_capacity}
use Rattle.std.proofs.lemmas.Iterator.{YieldsList-from_chars}
use Rattle.std.proofs.lemmas.Iterator.Adapters.{items_from_extend}
use Rattle.column_check.proofs.place.characters_of.Goals as goal

pub returns : goal.returns
returns c =
    let old = c.in_ok-characters.characters in
    let new = c.extend.new.self in
    let added = items_from_extend {E = Unit {0}} {P = λ xs. (new.items ≡ old.items ++ xs) × (vec_len new ≡ vec_len old + length xs) × (vec_capacity old ≤ vec_capacity new)} (Ok tt) c.in_ok-extend.ensures.ran (YieldsList-from_chars _ c.utf8.text c.chars.ensures.rest) in
    added.0 ∙ ap (λ items. items ++ chars c.args.text.now) c.in_ok-characters.ensures.items
