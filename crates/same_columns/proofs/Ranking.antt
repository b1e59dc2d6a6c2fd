-- Columns by their ranks.
use Rattle.std.proofs.Common.{◌≡◌, ◌⊎◌, ℕ, Bool, true, false, cond, bytes_eq, List, [], ◌∷◌, ◌++◌, Some, append-nil, append_assoc, inl, inr, length, refl, sym, ap, suc, zero, subst, ◌∙◌, arith}
use Rattle.std.specs.Prelude.{⊤}
use Rattle.std.specs.List.{slice_get}
use Rattle.std.proofs.lemmas.List.Elements.{filter-append}
use Rattle.std.proofs.lemmas.Slice.Eq.{bytes_eq-Decides}
use Rattle.arrow_values.specs.Tree.{Text}
use Rattle.same_columns.specs.Compared.{Compared}
use Rattle.same_columns.specs.Ranks.{Placed, named, partner, rank, ranked, ranked_behind}

pub bytes_same : (s : Text) → bytes_eq s s ≡ true
bytes_same s = (bytes_eq-Decides s s).1 refl

-- ---- columns behind others

abbrev later : List Placed → List Compared → List Placed
later xs [] = []
later xs (c ∷ cs) = rank xs c ∷ later (xs ++ rank xs c ∷ []) cs

split : (xs : List Placed) (cs : List Compared) → ranked_behind xs cs ≡ xs ++ later xs cs
split xs [] = sym (append-nil xs)
split xs (c ∷ cs) = split (xs ++ rank xs c ∷ []) cs ∙ append_assoc xs (rank xs c ∷ []) (later (xs ++ rank xs c ∷ []) cs)

-- ---- each is its own partner

abbrev pub AreOwn : List Placed → List Placed → Type 0
AreOwn all [] = ⊤
AreOwn all (x ∷ xs) = (partner all x ≡ Some x) × AreOwn all xs

first_behind : {X : Type 0} (ys : List X) (z : X) (zs : List X) → slice_get (ys ++ z ∷ zs) (length ys) ≡ Some z
first_behind [] z zs = refl
first_behind (y ∷ ys) z zs = first_behind ys z zs

own_head : (xs : List Placed) (c : Compared) (rest : List Placed) → partner (xs ++ rank xs c ∷ rest) (rank xs c) ≡ Some (rank xs c)
own_head xs c rest =
    let q = c.column.name in
    let x = rank xs c in
    ap (λ ys. slice_get ys (length (named xs q)))
    (filter-append (λ y. bytes_eq y.column.column.name q) xs (x ∷ rest) ∙ ap (λ b. named xs q ++ cond b (x ∷ named rest q) (named rest q)) (bytes_same q))
    ∙ first_behind (named xs q) x (named rest q)

own_later : (xs : List Placed) (cs : List Compared) → AreOwn (xs ++ later xs cs) (later xs cs)
own_later xs [] = tt
own_later xs (c ∷ cs) =
    let more = xs ++ rank xs c ∷ [] in
    (own_head xs c (later more cs), subst (λ ys. AreOwn ys (later more cs)) (append_assoc xs (rank xs c ∷ []) (later more cs)) (own_later more cs))

pub own : (cs : List Compared) → AreOwn (ranked cs) (ranked cs)
own cs = subst (λ ys. AreOwn ys ys) (sym (split [] cs)) (own_later [] cs)

-- ---- a place among those of a name

abbrev pub AreRanks : List Placed → Type 0
AreRanks xs = (q : Text) (k : ℕ) (x : Placed) → slice_get (named xs q) k ≡ Some x → (x.column.column.name ≡ q) × (x.before ≡ k)

pushed : {X : Type 0} (ys : List X) (z x : X) (k : ℕ) → slice_get (ys ++ z ∷ []) k ≡ Some x → (slice_get ys k ≡ Some x) ⊎ ((z ≡ x) × (length ys ≡ k))
pushed [] z x zero e = inr (grind (arith, e), refl)
pushed [] z x (suc k) e = absurd (cc)
pushed (y ∷ ys) z x zero e = inl e
pushed (y ∷ ys) z x (suc k) e = step (pushed ys z x k e)
  where
    step : (slice_get ys k ≡ Some x) ⊎ ((z ≡ x) × (length ys ≡ k)) → (slice_get ys k ≡ Some x) ⊎ ((z ≡ x) × (suc (length ys) ≡ suc k))
    step (inl h) = inl h
    step (inr h) = inr (h.0, ap suc h.1)

one_more_rank : (xs : List Placed) (c : Compared) → AreRanks xs → AreRanks (xs ++ rank xs c ∷ [])
one_more_rank xs c are q k x e =
    by_name (bytes_eq c.column.name q) refl (sym (ap (λ ys. slice_get ys k) (filter-append (λ y. bytes_eq y.column.column.name q) xs (rank xs c ∷ []))) ∙ e)
  where
    last : (c.column.name ≡ q) → (slice_get (named xs q) k ≡ Some x) ⊎ ((rank xs c ≡ x) × (length (named xs q) ≡ k)) → (x.column.column.name ≡ q) × (x.before ≡ k)
    last same (inl h) = are q k x h
    last same (inr h) =
        (subst (λ y. y.column.column.name ≡ q) h.0 same, subst (λ y. y.before ≡ k) h.0 (ap (λ p. length (named xs p)) same ∙ h.1))

    by_name : (b : Bool) → bytes_eq c.column.name q ≡ b → slice_get (named xs q ++ cond b (rank xs c ∷ []) []) k ≡ Some x → (x.column.column.name ≡ q) × (x.before ≡ k)
    by_name true same h = last ((bytes_eq-Decides c.column.name q).0 same) (pushed (named xs q) (rank xs c) x k h)
    by_name false other h = are q k x (ap (λ ys. slice_get ys k) (sym (append-nil (named xs q))) ∙ h)

ranks_behind : (xs : List Placed) (cs : List Compared) → AreRanks xs → AreRanks (ranked_behind xs cs)
ranks_behind xs [] are = are
ranks_behind xs (c ∷ cs) are = ranks_behind (xs ++ rank xs c ∷ []) cs (one_more_rank xs c are)

pub ranks : (cs : List Compared) → AreRanks (ranked cs)
ranks cs = ranks_behind [] cs (λ q k x e. absurd (cc))
