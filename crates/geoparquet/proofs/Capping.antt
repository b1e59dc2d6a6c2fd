-- The first sixteen of some findings.
use Rattle.std.proofs.Common.{◌≡◌, ℕ, zero, suc, ◌-◌, ◌<◌, ◌≤◌, false, true, nat_lt, List, [], ◌∷◌, ◌++◌, length, map, take, if◌then◌else◌, refl, sym, ap, ◌∙◌, arith}
use Rattle.std.proofs.lemmas.List.{length-map, map-append}
use Rattle.geoparquet.specs.Capped.{standing_for, last_standing_for, capped}
use Rattle.geoparquet.specs.Findings.{Finding, finding}
use Rattle.geoparquet.specs.declared.finding.GeoFinding.{GeoFinding}

pub few : (fs : List Finding) → length fs ≤ 16 → capped fs ≡ fs
unfolding capped
few fs short =
    let is : nat_lt 16 (length fs) ≡ false = grind arith in
    ap (λ b. if b then last_standing_for (length fs - 16) (take 16 fs) else fs) is

many : (fs : List Finding) → 16 < length fs → capped fs ≡ last_standing_for (length fs - 16) (take 16 fs)
unfolding capped
many fs long =
    let is : nat_lt 16 (length fs) ≡ true = grind arith in
    ap (λ b. if b then last_standing_for (length fs - 16) (take 16 fs) else fs) is

last_is : (n : ℕ) (fs : List Finding) (f : Finding) → last_standing_for n (fs ++ f ∷ []) ≡ fs ++ standing_for n f ∷ []
last_is n [] f = refl
last_is n (g ∷ []) f = refl
last_is n (g ∷ h ∷ fs) f = ap (λ xs. g ∷ xs) (last_is n (h ∷ fs) f)

map_take : (n : ℕ) (gs : List GeoFinding) → take n (map finding gs) ≡ map finding (take n gs)
map_take zero gs = refl
map_take (suc n) [] = refl
map_take (suc n) (g ∷ gs) = ap (λ xs. finding g ∷ xs) (map_take n gs)

-- what is left of sixteen when the last is taken, and that one again, standing for the others
pub one_for_all : (gs front after : List GeoFinding) (last new : GeoFinding) (n : ℕ) → 16 < length gs → take 16 gs ≡ front ++ last ∷ [] → n ≡ length gs - 16
    → finding new ≡ standing_for n (finding last) → after ≡ front ++ new ∷ [] → map finding after ≡ capped (map finding gs)
one_for_all gs front after last new n long taken count is made =
    let size = length-map gs finding in
    let whole : n ≡ length (map finding gs) - 16 = omega (arith, size, count) in
    let sixteen : take 16 (map finding gs) ≡ map finding front ++ finding last ∷ [] = map_take 16 gs ∙ ap (map finding) taken ∙ map-append finding front (last ∷ []) in
    ap (map finding) made ∙ map-append finding front (new ∷ []) ∙ ap (λ f. map finding front ++ f ∷ []) is
    ∙ sym (last_is n (map finding front) (finding last))
    ∙ ap (last_standing_for n) (sym sixteen) ∙ ap (λ k. last_standing_for k (take 16 (map finding gs))) whole
    ∙ sym (many (map finding gs) (omega (arith, size)))
