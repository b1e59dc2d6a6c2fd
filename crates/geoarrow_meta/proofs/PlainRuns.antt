-- Runs of plain bytes, 16 at a time.
use Rattle.std.proofs.Common.{◌≡◌, ℕ, zero, suc, ◌+◌, ◌%◌, ◌^◌, ◌<◌, ◌≤◌, ltb, Bool, true, false, cond, eqb, ◌||◌, List, [], ◌∷◌, length, take, drop, map, replicate, bit_or, refl, sym, ap, ap₂, ◌∙◌, arith}
use Rattle.std.proofs.lemmas.Bool.{eq-eqb, ne_eqb, cond-true, cond-false}
use Rattle.std.proofs.lemmas.Simd.{chunk-drop, length-chunk, mask_l-mod, first_set_mask_l}
use Rattle.std.proofs.lemmas.List.{length-map}
use Rattle.std.proofs.lemmas.List.Folds.{prefix_len-append}
use Rattle.std.proofs.lemmas.List.Sums.{prefix_len-le-length}
use Rattle.std.specs.List.{prefix_len}
use lib.Count.{count_trailing_zeros}
use lib.Lanes.{mask_l, top, zip2}
use Rattle.json.specs.Run.{is_stop, is_plain}

-- the tests of n bytes, as the code makes them
abbrev tests : List ℕ → ℕ → List ℕ
tests v n =
    let equals : ℕ → List ℕ = λ x. zip2 (λ a b. cond (eqb a b) 255 0) v (replicate n x) in
    zip2 bit_or (zip2 bit_or (equals 34) (equals 92)) (zip2 (λ a b. cond (ltb a b) 255 0) v (replicate n 32))

test : (a b c : Bool) → top 7 (bit_or (bit_or (cond a 255 0) (cond b 255 0)) (cond c 255 0)) ≡ (a || b || c)
test true true true = refl
test true false true = refl
test false true true = refl
test false false true = refl
test _ _ _ = refl

tested : (v : List ℕ) (n : ℕ) → length v ≡ n → map (top 7) (tests v n) ≡ map is_stop v
tested [] zero e = refl
tested (x ∷ v) (suc n) e = ap₂ (λ b bs. b ∷ bs) (test (eqb x 34) (eqb x 92) (ltb x 32)) (tested v n cc)
tested _ _ e = cc

pub plain_counted : (d : List ℕ) (i : ℕ) → i + 16 ≤ length d →
    let stops = mask_l (map (top 7) (tests (take 16 (drop i d)) 16)) % 2 ^ 64 in
    cond (eqb stops 0) 16 (count_trailing_zeros 64 stops) ≡ prefix_len is_plain (take 16 (drop i d))
plain_counted d i room =
    let v = take 16 (drop i d) in
    let long = length-chunk i 16 d room in
    let mask = ap (λ l. mask_l l % 2 ^ 64) (tested v 16 long) ∙ mask_l-mod (map is_stop v) 64 (omega (arith, length-map v is_stop)) in
    ap (λ m. cond (eqb m 0) 16 (count_trailing_zeros 64 m)) mask ∙ first_set_mask_l is_stop v 16 long (omega arith)

module _ (d : List ℕ) (i : ℕ) (room : i + 16 ≤ length d) where
  abbrev run : ℕ
  run = prefix_len is_plain (take 16 (drop i d))

  decided : prefix_len is_plain (drop i d) ≡ cond (eqb run 16) (16 + prefix_len is_plain (drop (i + 16) d)) run
  decided =
      ap (prefix_len is_plain) (chunk-drop i 16 d) ∙ prefix_len-append is_plain (take 16 (drop i d)) (drop (i + 16) d)
      ∙ ap (λ n. cond (eqb run n) (n + prefix_len is_plain (drop (i + 16) d)) run) (length-chunk i 16 d room)

  pub plain_within : run ≤ 16
  plain_within = omega (arith, prefix_len-le-length is_plain (take 16 (drop i d)), length-chunk i 16 d room)

  pub plain_stops : run < 16 → prefix_len is_plain (drop i d) ≡ run
  plain_stops few = decided ∙ cond-false _ _ _ (ne_eqb run 16 (λ h. omega arith))

  pub plain_passes : 16 ≤ run → prefix_len is_plain (drop i d) ≡ run + prefix_len is_plain (drop (i + run) d)
  plain_passes many =
      let all : run ≡ 16 = omega (arith, plain_within) in
      decided ∙ cond-true _ _ _ (eq-eqb run 16 all) ∙ ap (λ n. n + prefix_len is_plain (drop (i + n) d)) (sym all)
