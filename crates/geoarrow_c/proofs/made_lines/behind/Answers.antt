use Rattle.std.proofs.Common.{rules, ◌≡◌, ◌≢◌, ◌↔◌, ◌++◌, ◌∙◌, ℕ, List, Option, None, Some, Bor, MatchOption, option_map, sym, ap}
use Rattle.std.proofs.lemmas.Bool.Decides.{Decides-eqb}
use Rattle.std.proofs.lemmas.List.{append_cancel_left}
use Rattle.std.proofs.lemmas.Option.{same_Some}
use Rattle.std.proofs.lemmas.Slice.Eq.{strip_prefix_is}
use Rattle.geoarrow_c.proofs.made_lines.behind.Goals as goal

-- behind a word stands one text at most
one_rest : (words word : List ℕ) (r : Option (Bor (List ℕ))) → MatchOption r ((rest : List ℕ) → words ≢ word ++ rest) (λ x. words ≡ word ++ x.now)
    → (rest : List ℕ) → (option_map (λ x. x.now) r ≡ Some rest) ↔ (words ≡ word ++ rest)
one_rest words word None none rest = (λ e. cc, λ e. absurd (none rest e))
one_rest words word (Some x) is rest =
    (λ e. is ∙ ap (λ t. word ++ t) (same_Some x.now rest e), λ e. ap (λ t. Some t) (append_cancel_left word x.now rest (sym is ∙ e)))

pub returns : goal.returns
returns c =
    let lent : c.as_bytes.result.now ≡ c.args.word.now = search rules in
    let found = strip_prefix_is Decides-eqb c.args.words.now c.as_bytes.result.now c.strip_prefix.result c.strip_prefix.ensures.cases in
    one_rest c.args.words.now c.args.word.now c.strip_prefix.result (rw lent at found)
