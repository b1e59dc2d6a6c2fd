-- Records one after the other, and the structure in which they lie.
use Rattle.std.proofs.Common.{◌≡◌, ℕ, zero, suc, ◌+◌, ◌-◌, ◌≤◌, ◌<◌, ◌^◌, ◌==◌, true, false, List}
use Rattle.std.proofs.Common.{[], ◌∷◌, ◌++◌, length, Ok, replicate, refl, sym, ap, ◌∙◌, subst}
use Rattle.std.proofs.Common.{arith, append_assoc}
use Rattle.std.proofs.lemmas.List.{take_at, drop_at, length-append, length-replicate, append-nil}
use Rattle.std.proofs.lemmas.Bool.{le-leb, eq-eqb, ne_eqb}
use Rattle.record_wire.specs.Record.{Structure, record_at}
use Rattle.record_wire.specs.Write.{word, IsReadAs}
use Rattle.record_wire.specs.Trees.{inner_count, are_at, place_of, ended, head_at, root_at, steps}
use Rattle.record_wire.specs.Trees.{ValueOf, Waiting, waiting_with, put_next, whole_at, Adds}
use Rattle.record_wire.proofs.Written.{number_is}

all_at : (n level : ℕ) → are_at level (replicate n level) ≡ true
all_at zero level = refl
all_at (suc n) level = rw (eq-eqb level level refl) (all_at n level)

place_is : (s : Structure) (ls : List ℕ) (n : ℕ) → inner_count s ≡ n → s.level ≤ 61
    → place_of s (ls ++ replicate n (s.level + 1)) ≡ Ok (length ls)
unfolding place_of
place_is s ls n many low =
    let inner = replicate n (s.level + 1) in
    let all : length (ls ++ inner) ≡ length ls + n =
    length-append ls inner ∙ ap (λ k. length ls + k) (length-replicate n (s.level + 1)) in
    let le : inner_count s ≤ length (ls ++ inner) = omega (arith, all, many) in
    let at : length (ls ++ inner) - inner_count s ≡ length ls = omega (arith, all, many) in
    rw (
      le-leb (inner_count s) (length (ls ++ inner)) le,
      at,
      le-leb s.level 61 low,
      drop_at ls inner (length ls) refl,
      all_at n (s.level + 1),
    ) refl

module _ {V : Type 0} (value_of : ValueOf V) where
  pub begins : (level : ℕ) → Adds value_of 0 [] [] level
  begins level m w rest same =
      let none : 0 + m ≡ m = omega arith in
      rw (none, append-nil w.0, append-nil w.1) refl

  -- what is put where the structure stands in which these lie
  module _ (s : Structure) (r : List ℕ) (vs : List V) (v : V) (read : IsReadAs r s)
      (many : length vs ≡ inner_count s) (low : s.level ≤ 61) (is : value_of s vs ≡ Ok v) where
    put_is : (w : Waiting V) (rest : List ℕ) → length w.0 ≡ length w.1
        → put_next value_of (waiting_with w vs (s.level + 1)) (r ++ rest)
        ≡ Ok (waiting_with w (v ∷ []) s.level, rest)
    unfolding put_next
    put_is w rest same =
        let inner = replicate (length vs) (s.level + 1) in
        rw (
          read rest,
          place_is s w.1 (length vs) (sym many) low,
          drop_at w.0 vs (length w.1) same,
          is,
          take_at w.0 vs (length w.1) same,
          take_at w.1 inner (length w.1) refl,
        ) refl

    pub closes : (n : ℕ) (below : List ℕ) → Adds value_of n below vs (s.level + 1)
        → Adds value_of (n + 1) (below ++ r) (v ∷ []) s.level
    unfolding steps
    closes n below adds m w rest same =
        let k : n + 1 + m ≡ n + suc m = omega arith in
        let b : (below ++ r) ++ rest ≡ below ++ (r ++ rest) = append_assoc below r rest in
        rw (k, b) (adds (suc m) w (r ++ rest) same ∙ rw (put_is w rest same) refl)

  repeated : (n k level : ℕ) → replicate n level ++ replicate k level ≡ replicate (n + k) level
  repeated zero k level = let none : 0 + k ≡ k = omega arith in rw none refl
  repeated (suc n) k level =
      let more : suc n + k ≡ suc (n + k) = omega arith in
      rw more (ap (λ l. level ∷ l) (repeated n k level))

  pub follows : (n k : ℕ) (a b : List ℕ) (vs ws : List V) (level : ℕ)
      → Adds value_of n a vs level → Adds value_of k b ws level
      → Adds value_of (n + k) (a ++ b) (vs ++ ws) level
  follows n k a b vs ws level one other m w rest same =
      let inner = replicate (length vs) level in let more = replicate (length ws) level in
      let count : n + k + m ≡ n + (k + m) = omega arith in
      let bytes : (a ++ b) ++ rest ≡ a ++ (b ++ rest) = append_assoc a b rest in
      let levels : (w.1 ++ inner) ++ more ≡ w.1 ++ replicate (length (vs ++ ws)) level =
      let both = repeated (length vs) (length ws) level in
      let all = ap (λ i. replicate i level) (sym (length-append vs ws)) in
      append_assoc w.1 inner more ∙ ap (λ l. w.1 ++ l) (both ∙ all) in
      let values : (w.0 ++ vs) ++ ws ≡ w.0 ++ (vs ++ ws) = append_assoc w.0 vs ws in
      let x = length-append w.0 vs in let y = length-append w.1 inner in
      let z = length-replicate (length vs) level in
      let still : length (w.0 ++ vs) ≡ length (w.1 ++ inner) = omega (arith, x, y, z, same) in
      let first = one (k + m) w (b ++ rest) same in
      let second = other m (w.0 ++ vs, w.1 ++ inner) rest still in
      rw (count, bytes) (first ∙ second ∙ rw (levels, values) refl)

  -- the structure in which all lie, around what was added at level 1
  pub ends : (n : ℕ) (below r : List ℕ) (vs : List V) (s : Structure) → n + 1 < 2 ^ 32
      → Adds value_of n below vs 1 → IsReadAs r s → length vs ≡ inner_count s → s.level ≡ 0
      → whole_at value_of (word (n + 1) ++ (word 0 ++ (below ++ r))) ≡ Ok (s, vs)
  unfolding whole_at head_at root_at ended steps
  ends n below r vs s small adds read many first =
      let some : (n + 1 == 0) ≡ false = ne_eqb (n + 1) 0 (omega arith) in
      let k : n + 1 - 1 ≡ n + 0 = omega arith in
      let last : record_at r ≡ Ok (s, []) =
      subst (λ (b : List ℕ). record_at b ≡ Ok (s, [])) (append-nil r) (read []) in
      let low : s.level ≤ 61 = omega (arith, first) in
      let one : s.level + 1 ≡ 1 = omega (arith, first) in
      let place : place_of s (replicate (length vs) 1) ≡ Ok 0 =
      let alone = place_is s [] (length vs) (sym many) low in
      subst (λ (l : ℕ). place_of s (replicate (length vs) l) ≡ Ok 0) one alone in
      rw (
        number_is (n + 1) (word 0 ++ (below ++ r)) small,
        number_is 0 (below ++ r) (omega arith),
        some,
        k,
        adds 0 ([], []) r refl,
        last,
        place,
        eq-eqb s.level 0 first,
      ) refl
