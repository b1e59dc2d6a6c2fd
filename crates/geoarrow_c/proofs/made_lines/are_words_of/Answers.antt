use Rattle.std.proofs.Common.{rules, ◌≡◌, ◌↔◌, ◌++◌, ◌∙◌, ℕ, List, codes, Option, None, Some, Bor, option_map, sym, ap, append_assoc}
use Rattle.std.proofs.lemmas.Option.{same_Some}
use Rattle.std.proofs.lemmas.Slice.Eq.{slice_eq-Decides}
use Rattle.std.proofs.lemmas.Bool.Decides.{Decides-eqb}
use Rattle.geoarrow_layout.specs.Kinds.{coord_type_of, dimension_of}
use Rattle.geoarrow_layout.specs.KindWords.{kind_word, coord_type_word, dimension_word}
use Rattle.geoarrow_layout.specs.declared.native_kinds.Kind.{Kind}
use Rattle.column_reports.specs.Report.{kind_text}
use Rattle.geoarrow_c.proofs.made_lines.are_words_of.Goals as goal

-- what is told of a text behind a word
abbrev Behind : List ℕ → List ℕ → Option (Bor (List ℕ)) → Type 0
Behind words word r = (rest : List ℕ) → (option_map (λ x. x.now) r ≡ Some rest) ↔ (words ≡ word ++ rest)

-- what is to stand behind it is what does
next : (words word more : List ℕ) (r : Option (Bor (List ℕ))) (x : Bor (List ℕ)) → r ≡ Some x → Behind words word r → (words ≡ word ++ more) ↔ (x.now ≡ more)
next words word more r x is behind =
    let here : option_map (λ y. y.now) r ≡ Some x.now = ap (λ o. option_map (λ y. y.now) o) is in
    (λ e. same_Some x.now more (sym here ∙ (behind more).1 e), λ e. (behind more).0 (here ∙ ap (λ t. Some t) e))

-- where nothing does, the text does not begin with the word
ends : (words word more : List ℕ) (r : Option (Bor (List ℕ))) → r ≡ None → Behind words word r → words ≡ word ++ more → ⊥
ends words word more r is behind e =
    let here : option_map (λ y. y.now) r ≡ None = ap (λ o. option_map (λ y. y.now) o) is in
    let there : option_map (λ y. y.now) r ≡ Some more = (behind more).1 e in
    cc

-- the words of a kind from its coordinate type on, and behind that
abbrev typed : Kind → List ℕ
typed k = coord_type_word (coord_type_of k) ++ (codes " " ++ dimension_word (dimension_of k))

abbrev sized : Kind → List ℕ
sized k = codes " " ++ dimension_word (dimension_of k)

-- the words, part by part
spelled : (k : Kind) → kind_text k ≡ kind_word k ++ (codes " " ++ typed k)
spelled k = simp append_assoc

pub returns-in_default-behind : goal.returns-in_default-behind
returns-in_default-behind c =
    let k = c.args.kind in
    let word : c.kind_word.result.now ≡ kind_word k = search rules in
    let first : (c.args.words.now ≡ c.kind_word.result.now ++ (codes " " ++ typed k)) ↔ (c.in-Some.rest.now ≡ codes " " ++ typed k)
    = next c.args.words.now c.kind_word.result.now (codes " " ++ typed k) c.behind.result c.in-Some.rest c.in-Some.is c.behind.ensures in
    (λ e. cc, λ e. absurd (ends c.in-Some.rest.now (codes " ") (typed k) c.behind-2.result c.in_default-behind.is c.behind-2.ensures (first.0 (rw word (e ∙ spelled k)))))

pub returns-in_default-behind-2 : goal.returns-in_default-behind-2
returns-in_default-behind-2 c =
    let k = c.args.kind in
    let word : c.kind_word.result.now ≡ kind_word k = search rules in
    let type_word : c.coord_type_word.result.now ≡ coord_type_word (coord_type_of k) = search rules in
    let first : (c.args.words.now ≡ c.kind_word.result.now ++ (codes " " ++ typed k)) ↔ (c.in-Some.rest.now ≡ codes " " ++ typed k)
    = next c.args.words.now c.kind_word.result.now (codes " " ++ typed k) c.behind.result c.in-Some.rest c.in-Some.is c.behind.ensures in
    let second : (c.in-Some.rest.now ≡ codes " " ++ typed k) ↔ (c.in-Some-behind.rest.now ≡ typed k)
    = next c.in-Some.rest.now (codes " ") (typed k) c.behind-2.result c.in-Some-behind.rest c.in-Some-behind.is c.behind-2.ensures in
    let third : c.in-Some-behind.rest.now ≡ c.coord_type_word.result.now ++ sized k → ⊥
    = ends c.in-Some-behind.rest.now c.coord_type_word.result.now (sized k) c.behind-3.result c.in_default-behind-2.is c.behind-3.ensures in
    (λ e. cc, λ e. absurd (third (rw type_word (second.0 (first.0 (rw word (e ∙ spelled k)))))))

pub returns-in_default-behind-3 : goal.returns-in_default-behind-3
returns-in_default-behind-3 c =
    let k = c.args.kind in
    let word : c.kind_word.result.now ≡ kind_word k = search rules in
    let type_word : c.coord_type_word.result.now ≡ coord_type_word (coord_type_of k) = search rules in
    let first : (c.args.words.now ≡ c.kind_word.result.now ++ (codes " " ++ typed k)) ↔ (c.in-Some.rest.now ≡ codes " " ++ typed k)
    = next c.args.words.now c.kind_word.result.now (codes " " ++ typed k) c.behind.result c.in-Some.rest c.in-Some.is c.behind.ensures in
    let second : (c.in-Some.rest.now ≡ codes " " ++ typed k) ↔ (c.in-Some-behind.rest.now ≡ typed k)
    = next c.in-Some.rest.now (codes " ") (typed k) c.behind-2.result c.in-Some-behind.rest c.in-Some-behind.is c.behind-2.ensures in
    let third : (c.in-Some-behind.rest.now ≡ c.coord_type_word.result.now ++ sized k) ↔ (c.in-Some-behind-2.rest.now ≡ sized k)
    = next c.in-Some-behind.rest.now c.coord_type_word.result.now (sized k) c.behind-3.result c.in-Some-behind-2.rest c.in-Some-behind-2.is c.behind-3.ensures in
    let fourth : c.in-Some-behind-2.rest.now ≡ sized k → ⊥
    = ends c.in-Some-behind-2.rest.now (codes " ") (dimension_word (dimension_of k)) c.behind-4.result c.in_default-behind-3.is c.behind-4.ensures in
    (λ e. cc, λ e. absurd (fourth (third.0 (rw type_word (second.0 (first.0 (rw word (e ∙ spelled k))))))))

pub returns : goal.returns
returns c =
    let k = c.args.kind in
    let word : c.kind_word.result.now ≡ kind_word k = search rules in
    let type_word : c.coord_type_word.result.now ≡ coord_type_word (coord_type_of k) = search rules in
    let last_word : c.as_bytes.result.now ≡ dimension_word (dimension_of k) = search rules in
    let first : (c.args.words.now ≡ c.kind_word.result.now ++ (codes " " ++ typed k)) ↔ (c.in-Some.rest.now ≡ codes " " ++ typed k)
    = next c.args.words.now c.kind_word.result.now (codes " " ++ typed k) c.behind.result c.in-Some.rest c.in-Some.is c.behind.ensures in
    let second : (c.in-Some.rest.now ≡ codes " " ++ typed k) ↔ (c.in-Some-behind.rest.now ≡ typed k)
    = next c.in-Some.rest.now (codes " ") (typed k) c.behind-2.result c.in-Some-behind.rest c.in-Some-behind.is c.behind-2.ensures in
    let third : (c.in-Some-behind.rest.now ≡ c.coord_type_word.result.now ++ sized k) ↔ (c.in-Some-behind-2.rest.now ≡ sized k)
    = next c.in-Some-behind.rest.now c.coord_type_word.result.now (sized k) c.behind-3.result c.in-Some-behind-2.rest c.in-Some-behind-2.is c.behind-3.ensures in
    let fourth : (c.in-Some-behind-2.rest.now ≡ sized k) ↔ (c.in-Some-behind-3.rest.now ≡ dimension_word (dimension_of k))
    = next c.in-Some-behind-2.rest.now (codes " ") (dimension_word (dimension_of k)) c.behind-4.result c.in-Some-behind-3.rest c.in-Some-behind-3.is c.behind-4.ensures in
    let same = slice_eq-Decides Decides-eqb c.in-Some-behind-3.rest.now c.as_bytes.result.now c.eq.result c.eq.ensures in (
      λ t. rw word at (first.1 (second.1 (rw type_word at (third.1 (fourth.1 (same.0 t ∙ last_word)))))) ∙ sym (spelled k),
      λ e. same.1 (fourth.0 (third.0 (rw type_word (second.0 (first.0 (rw word (e ∙ spelled k)))))) ∙ sym last_word),
    )
