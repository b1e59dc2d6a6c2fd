use Rattle.geoarrow_layout.proofs.Lemmas.{tests, Bor, YieldsList-from_slice, first_from_find, AllWithin, option_copied, ◌≡◌, ◌↔◌, ◌∙◌, sym, ap, arith, rules, Option, Some, None, MatchOption, same_Some, length, Tree, tree, Kind, layout, ALL, listed, layouts_are_distinct}
use Rattle.geoarrow_layout.proofs.write.written_kind.Goals as goal

-- the first kind with this layout is the one, and where there is none, no kind has it
written_found : (t : Tree) (S : Bor Kind → Type 0) → ((x : Bor Kind) → S x → t ≡ layout x.now) → (r : Option (Bor Kind))
    → MatchOption r (AllWithin (λ k. t ≡ layout k → ⊥) ALL 0 (length ALL)) S → (k : Kind) → (option_copied r ≡ Some k) ↔ (t ≡ layout k)
written_found t S is None h k = (λ e. cc, λ same. let l = listed k in absurd (h l.0 k (omega arith) l.1 (same ∙ ap layout (sym l.2))))
written_found t S is (Some x) h k = (λ e. is x h ∙ ap layout (same_Some x.now k e), λ e. ap (λ y. Some y) (layouts_are_distinct x.now k (sym (is x h) ∙ e)))

pub returns : goal.returns
returns c =
    let t = tree c.args.data_type.now in
    let first = first_from_find _ _ _ (λ k. t ≡ layout k) (λ k. t ≡ layout k → ⊥) c.find.ensures.ran (YieldsList-from_slice ALL cc) (λ x q h. search (rules, tests)) (λ x q h. search (rules, tests)) in
    rw c.copied.ensures (written_found t _ (λ x h. h.0) c.find.result first)
