-- Findings of which a hundred are told.
use Rattle.std.proofs.Common.{◌≡◌, ℕ, zero, suc, ◌+◌, ◌<◌, ◌≤◌, List, [], ◌∷◌, ◌++◌, append-nil, append_assoc, drop, get_or, length, map, max, take, refl, subst, sym, ap, ap₂, ◌∙◌, arith}
use Rattle.std.proofs.lemmas.List.{at_drop_all, at_drop_more, length-map, map-append, take-append-le, take-map}
use Rattle.geoparquet.specs.Findings.{Finding, finding}
use Rattle.geoparquet.specs.RepeatedKeys.{told, AreTold}
use Rattle.geoparquet.specs.declared.finding.GeoFinding.{GeoFinding}

taken_behind : (n : ℕ) (xs ys rest : List Finding) → take n xs ≡ take n ys → take n (xs ++ rest) ≡ take n (ys ++ rest)
taken_behind zero xs ys rest h = refl
taken_behind (suc n) [] [] rest h = refl
taken_behind (suc n) [] (y ∷ ys) rest h = absurd (cc)
taken_behind (suc n) (x ∷ xs) [] rest h = absurd (cc)
taken_behind (suc n) (x ∷ xs) (y ∷ ys) rest h =
    let first : x ≡ y = cc in
    let others : take n xs ≡ take n ys = cc in
    ap₂ (λ z zs. z ∷ zs) first (taken_behind n xs ys rest others)

-- what comes behind findings that are told
pub told_behind : (old new : List GeoFinding) (fs rest : List Finding) → AreTold old new fs → told (map finding new ++ rest) ≡ told (map finding old ++ (fs ++ rest))
told_behind old new fs rest h = taken_behind 100 (map finding new) (map finding old ++ fs) rest h ∙ ap told (append_assoc (map finding old) fs rest)

-- one after another
pub told_both : (old between new : List GeoFinding) (fs gs : List Finding) → AreTold old between fs → AreTold between new gs → AreTold old new (fs ++ gs)
told_both old between new fs gs h k = k ∙ told_behind old between fs gs h

-- one more of a loop
module _ {X : Type 0} (one : ℕ → X → List Finding) (all : ℕ → List X → List Finding) (more : (i : ℕ) (x : X) (xs : List X) → all i (x ∷ xs) ≡ one i x ++ all (i + 1) xs) where
  pub told_next : (old new : List GeoFinding) (xs : List X) {ys : List X} (i : ℕ) (x : X) → xs ≡ ys → x ≡ get_or xs i x → i < length xs → AreTold old new (one i x)
      → told (map finding new ++ all (i + 1) (drop (i + 1) ys)) ≡ told (map finding old ++ all i (drop i ys))
  told_next old new xs i x same is lt h =
      let here = at_drop_more (all i) xs i x lt ∙ ap (λ y. all i (y ∷ drop (i + 1) xs)) (sym is) ∙ more i x (drop (i + 1) xs) in
      subst (λ zs. told (map finding new ++ all (i + 1) (drop (i + 1) zs)) ≡ told (map finding old ++ all i (drop i zs))) same
      (told_behind old new (one i x) (all (i + 1) (drop (i + 1) xs)) h ∙ ap (λ fs. told (map finding old ++ fs)) (sym here))

-- the end of a loop
pub told_done : {X : Type 0} (all : ℕ → List X → List Finding) → ((i : ℕ) → all i [] ≡ []) → (old new : List GeoFinding) (whole : List Finding) (xs : List X) (i : ℕ) → length xs ≤ i
    → told (map finding new ++ all i (drop i xs)) ≡ told (map finding old ++ whole) → AreTold old new whole
told_done all none old new whole xs i le h =
    ap told (sym (append-nil (map finding new))) ∙ ap (λ fs. told (map finding new ++ fs)) (sym (at_drop_all (all i) xs i le ∙ none i)) ∙ h

-- there is no room for another
pub told_full : (fs : List GeoFinding) (f : Finding) → 100 ≤ length fs → AreTold fs fs (f ∷ [])
told_full fs f le = sym (take-append-le 100 (map finding fs) (f ∷ []) (rw (length-map fs finding) le))

-- those that are told, behind others
pub told_at_end : (old start found made new : List GeoFinding) (fs : List Finding) → start ≡ [] → AreTold start found fs → made ≡ take 100 found → new ≡ old ++ made → map finding new ≡ map finding old ++ told fs
told_at_end old start found made new fs none h cut put =
    ap (map finding) put ∙ map-append finding old made
    ∙ ap (λ gs. map finding old ++ gs) (ap (map finding) cut ∙ sym (take-map finding 100 found) ∙ h ∙ ap (λ gs. told (map finding gs ++ fs)) none)

-- an item of a loop nests no deeper than what it is in
module _ {X : Type 0} (one : X → ℕ) (all : List X → ℕ) (more : (x : X) (xs : List X) → all (x ∷ xs) ≡ max (one x) (all xs)) where
  pub nests : (xs : List X) {ys : List X} (i : ℕ) (x : X) → xs ≡ ys → i < length xs → x ≡ get_or xs i x → one x ≤ all ys
  nests [] i x e lt is = absurd (omega arith)
  nests (y ∷ ys) zero x e lt is = rw (← e) (let same : one x ≡ one y = ap one is in let most = more y ys in omega arith)
  nests (y ∷ ys) (suc i) x e lt is = rw (← e) (let low = nests ys i x refl (omega arith) is in let most = more y ys in omega arith)
