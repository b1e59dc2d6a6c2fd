-- What is read at a place of a message from the bytes that stand there, and what stands in a block of linked blocks: its number, its
-- offsets with the blocks to which they lead, its other bytes, and where it is a table, its slots.
use Rattle.std.proofs.Common.{get_or, ◌≡◌, ℕ, zero, suc, ◌+◌, ◌*◌, ◌-◌, ◌^◌, ◌%◌, ◌<◌, ◌≤◌, true, false, ◌++◌, ◌∷◌, [], List, length, take, drop, Some, Ok, refl, sym, ap, ◌∙◌, arith, nat_lt, ◌==◌, Bool, replicate, Option, None, Result, subst, append_assoc, if◌then◌else◌, map, Vec, Global}
use Rattle.std.specs.Int.{w8, w16, w32, to_le_bytes, from_le_bytes}
use Rattle.std.specs.Str.{is_utf8}
use Rattle.std.specs.List.{concat}
use Rattle.std.proofs.lemmas.Nat.{from_le_bytes-to_le_bytes_4}
use Rattle.std.proofs.lemmas.List.{get_or_past, length-drop, drop-drop, drop_at, take_at, take_all, length-append, length-replicate, length-map}
use Rattle.std.proofs.lemmas.Bool.{lt-ltb, le-ltb, le-leb, ltb-true, ltb-false, eq-eqb}
use Rattle.std.proofs.lemmas.Bool.Decides.{nat_tests}
use Rattle.std.proofs.lemmas.Str.{IsUtf8-from_is_utf8, is_utf8-from_IsUtf8}
use Rattle.arrow_ipc.specs.Wire.{integer_at, ahead, vtable_at, target_at, text_at, utf8_at, vector_at, opened_at, slot_at}
use Rattle.arrow_ipc.specs.Blocks.{Lies, Holds, lengths, word, rounded, padded, offsets, linked, table_size, places, table_block}
use Rattle.arrow_ipc.specs.declared.fault.IpcFault.{IpcFault}
use Rattle.arrow_ipc.specs.declared.wire.Table.{Table}
use Rattle.arrow_ipc.specs.declared.fault.IpcRule.{IpcRule}
use Rattle.arrow_ipc.specs.declared.fault.IpcRule.TheVariants.{Vtable, Offset, Text, Vector, Slot}

-- the test for UTF-8
pub ruleset utf8_tests = (IsUtf8-from_is_utf8, is_utf8-from_IsUtf8)

pub is_some : (n : ℕ) → 0 < n → (n == 0) ≡ false
is_some n e = grind (arith, nat_tests)

module _ (bytes : List ℕ) (at : ℕ) where
  pub u8_is : (b : ℕ) (rest : List ℕ) → drop at bytes ≡ b ∷ rest → integer_at bytes at w8 ≡ Ok b
  unfolding integer_at
  u8_is b rest is = let even : at % 1 ≡ 0 = omega arith in rw (even, is, le-leb 1 (length (b ∷ rest)) (omega arith)) refl

  pub u16_is : (a b : ℕ) (rest : List ℕ) → at % 2 ≡ 0 → drop at bytes ≡ a ∷ b ∷ rest → integer_at bytes at w16 ≡ Ok (from_le_bytes w16 (a ∷ b ∷ []))
  unfolding integer_at
  u16_is a b rest even is = rw (even, is, le-leb 2 (length (a ∷ b ∷ rest)) (omega arith)) refl

  pub u32_is : (n : ℕ) (rest : List ℕ) → at % 4 ≡ 0 → n < 2 ^ 32 → drop at bytes ≡ to_le_bytes w32 n ++ rest → integer_at bytes at w32 ≡ Ok n
  unfolding integer_at
  u32_is n rest even small is = rw (even, is, le-leb 4 (length (to_le_bytes w32 n ++ rest)) (omega arith)) (ap (λ (m : ℕ). Ok m) (from_le_bytes-to_le_bytes_4 n small))

  pub ahead_is : (rule : IpcRule) (by : ℕ) → at + by ≤ length bytes → ahead rule bytes at by ≡ Ok (at + by)
  unfolding ahead
  ahead_is rule by le = rw (le-leb (at + by) (length bytes) le) refl

  pub target_is : (n : ℕ) (rest : List ℕ) → at % 4 ≡ 0 → 0 < n → n < 2 ^ 32 → at + n ≤ length bytes → drop at bytes ≡ to_le_bytes w32 n ++ rest → target_at bytes at ≡ Ok (at + n)
  unfolding target_at
  target_is n rest even some small within is = rw (u32_is n rest even small is, is_some n some) (ahead_is Offset n within)

  pub vtable_is : (k : ℕ) (rest : List ℕ) → at % 4 ≡ 0 → 0 < k → k ≤ 2 ^ 31 → at + k ≤ length bytes → drop at bytes ≡ to_le_bytes w32 (2 ^ 32 - k) ++ rest → vtable_at bytes at ≡ Ok (at + k)
  unfolding vtable_at
  vtable_is k rest even some small within is =
      let back : 2 ^ 32 - (2 ^ 32 - k) ≡ k = omega arith in
      rw (u32_is (2 ^ 32 - k) rest even (omega arith) is, le-ltb (2 ^ 32 - k) (2 ^ 31) (omega arith), back) (ahead_is Vtable k within)

-- a text that stands there, with a NUL behind it
pub text_is : (bytes : List ℕ) (at : ℕ) (text rest : List ℕ) → at % 4 ≡ 0 → length text < 2 ^ 32 → is_utf8 text ≡ true → drop at bytes ≡ to_le_bytes w32 (length text) ++ (text ++ 0 ∷ rest) → utf8_at bytes at ≡ Ok text
unfolding utf8_at text_at
text_is bytes at text rest even small valid is =
    let tail : drop (at + 4) bytes ≡ text ++ 0 ∷ rest = sym (drop-drop 4 at bytes) ∙ ap (drop 4) is in
    let end : drop (at + 4 + length text) bytes ≡ 0 ∷ rest = sym (drop-drop (length text) (at + 4) bytes) ∙ ap (drop (length text)) tail ∙ drop_at text (0 ∷ rest) (length text) refl in
    let body : take (length text) (drop (at + 4) bytes) ≡ text = ap (take (length text)) tail ∙ take_at text (0 ∷ rest) (length text) refl in
    let left : length bytes - (at + 4 + length text) ≡ suc (length rest) = sym (length-drop (at + 4 + length text) bytes) ∙ ap length end in
    rw (u32_is bytes at (length text) (text ++ 0 ∷ rest) even small is, ahead_is bytes at Text 4 (omega (arith, left)), ahead_is bytes (at + 4) Text (length text) (omega (arith, left)), body, end, valid) refl

-- ---- lengths

pub length_offsets : (near far : ℕ) (bs : List (List ℕ)) → length (offsets near far bs) ≡ 4 * length bs
unfolding offsets
length_offsets near far [] = refl
length_offsets near far (b ∷ bs) = grind (arith, length-append, length_offsets (near + 4) (far + length b) bs)

pub length_padded : (bytes : List ℕ) → length (padded bytes) ≡ rounded (length bytes)
unfolding padded
length_padded bytes = grind (arith, length-append, length-replicate)

pub zeros_put : (bytes : List ℕ) → take (rounded (length bytes)) bytes ++ replicate (rounded (length bytes) - length bytes) 0 ≡ padded bytes
unfolding padded
zeros_put bytes = ap (λ l. l ++ replicate (rounded (length bytes) - length bytes) 0) (take_all (rounded (length bytes)) bytes (omega arith))

length_concat : (bs : List (List ℕ)) → length (concat bs) ≡ lengths bs
length_concat [] = refl
length_concat (b ∷ bs) = length-append b (concat bs) ∙ ap (λ n. length b + n) (length_concat bs)

module _ (first : ℕ) (bs : List (List ℕ)) (rest : List ℕ) where
  abbrev far : ℕ
  far = rounded (4 + (4 * length bs + length rest))

  abbrev heads : List ℕ
  heads = offsets 4 far bs

  length_heads : length (word first ++ (heads ++ rest)) ≡ 4 + (4 * length bs + length rest)
  length_heads = grind (arith, length-append, length_offsets)

  length_front : length (padded (word first ++ (heads ++ rest))) ≡ far
  length_front = let one = length_padded (word first ++ (heads ++ rest)) in let two = length_heads in one ∙ ap rounded two

  pub length_linked : length (linked first bs rest) ≡ rounded (4 + (4 * length bs + length rest)) + lengths bs
  unfolding linked
  length_linked = grind (arith, length-append, length_front, length_concat)

abbrev pub items : Vec ℕ Global → List ℕ
items v = v.items

pub long_linked : (first : ℕ) (blocks : List (Vec ℕ Global)) (rest : List ℕ) → length (linked first (map items blocks) rest) ≡ rounded (4 + (4 * length blocks + length rest)) + lengths (map items blocks)
long_linked first blocks rest = grind (arith, length_linked, length-map)

-- ---- what stands further on

module _ (bytes : List ℕ) (at : ℕ) where
  pub by_place : (y : List ℕ) (k : ℕ) → drop at bytes ≡ y → drop (at + k) bytes ≡ drop k y
  by_place y k is = sym (drop-drop k at bytes) ∙ ap (drop k) is

  pub further : (a b : List ℕ) (to : ℕ) → drop at bytes ≡ a ++ b → at + length a ≡ to → drop to bytes ≡ b
  further a b to is place = subst (λ n. drop n bytes ≡ b) place (by_place (a ++ b) (length a) is ∙ drop_at a b (length a) refl)

-- ---- the blocks to which offsets lead

pub record Leads (bytes : List ℕ) (at : ℕ) (block : List ℕ) : Type 0 where
  pub to : ℕ
  pub led : target_at bytes at ≡ Ok to
  pub lies : Lies block bytes to

abbrev pub AreLinked : List ℕ → ℕ → ℕ → List (List ℕ) → Type 0
AreLinked bytes at near [] = Unit {0}
AreLinked bytes at near (b ∷ bs) = Leads bytes (at + near) b × AreLinked bytes at (near + 4) bs

abbrev pub AreWhole : List (List ℕ) → Type 0
AreWhole [] = Unit {0}
AreWhole (b ∷ bs) = (length b % 8 ≡ 0) × AreWhole bs

pub whole_lengths : (bs : List (List ℕ)) → AreWhole bs → lengths bs % 8 ≡ 0
whole_lengths [] all = refl
whole_lengths (b ∷ bs) all = let rest = whole_lengths bs all.1 in omega (arith, rest, all.0)

links : (bytes : List ℕ) (at : ℕ) (bs : List (List ℕ)) (near far : ℕ) (rest more : List ℕ) → drop (at + near) bytes ≡ offsets near far bs ++ rest → drop (at + far) bytes ≡ concat bs ++ more
    → (at + near) % 4 ≡ 0 → (at + far) % 8 ≡ 0 → AreWhole bs → near + 4 * length bs ≤ far → far + lengths bs < 2 ^ 32 → at + far + lengths bs ≤ length bytes → AreLinked bytes at near bs
unfolding offsets
links bytes at [] near far rest more is has fourth whole all room small within = tt
links bytes at (b ∷ bs) near far rest more is has fourth whole all room small within =
    let left = offsets (near + 4) (far + length b) bs ++ rest in
    let here : drop (at + near) bytes ≡ word (far - near) ++ left = is ∙ append_assoc (word (far - near)) (offsets (near + 4) (far + length b) bs) rest in
    let there : drop (at + far) bytes ≡ b ++ (concat bs ++ more) = has ∙ append_assoc b (concat bs) more in
    let place : at + near + (far - near) ≡ at + far = omega (arith, room) in
    let led : target_at bytes (at + near) ≡ Ok (at + far) = target_is bytes (at + near) (far - near) left fourth (omega (arith, room)) (omega (arith, small)) (omega (arith, place, within)) here ∙ ap (λ (p : ℕ). Ok p) place in
    let next = links bytes at bs (near + 4) (far + length b) rest more (further bytes (at + near) (word (far - near)) left (at + (near + 4)) here (omega arith))
    (further bytes (at + far) b (concat bs ++ more) (at + (far + length b)) there (omega arith)) (omega (arith, fourth)) (omega (arith, whole, all.0)) all.1 (omega (arith, room)) (omega (arith, small)) (omega (arith, within)) in
    (record { to = at + far; led = led; lies = record { after = concat bs ++ more; is = there; whole = whole } }, next)

module _ (bytes : List ℕ) (at first : ℕ) (bs : List (List ℕ)) (rest : List ℕ) (lies : Lies (linked first bs rest) bytes at) where
  -- what comes behind the other bytes
  abbrev pub tail : List ℕ
  tail = replicate (rounded (length (word first ++ (heads first bs rest ++ rest))) - length (word first ++ (heads first bs rest ++ rest))) 0 ++ (concat bs ++ lies.after)

  pub flat : drop at bytes ≡ word first ++ (offsets 4 (rounded (4 + (4 * length bs + length rest))) bs ++ (rest ++ tail))
  unfolding linked padded
  flat = lies.is ∙ simp append_assoc

  pub lies_within : at + length (linked first bs rest) ≤ length bytes
  lies_within = let all = ap length lies.is in grind (arith, length-drop, length-append, length_linked)

  bodies : drop (at + far first bs rest) bytes ≡ concat bs ++ lies.after
  unfolding linked
  bodies =
      let front = padded (word first ++ (heads first bs rest ++ rest)) in
      let size = length_front first bs rest in
      further bytes at front (concat bs ++ lies.after) (at + far first bs rest) (lies.is ∙ append_assoc front (concat bs) lies.after) (omega (arith, size))

  pub are_linked : AreWhole bs → length (linked first bs rest) < 2 ^ 32 → AreLinked bytes at 4 bs
  are_linked all small =
      let size = length_linked first bs rest in
      let within = lies_within in
      let whole = lies.whole in
      links bytes at bs 4 (far first bs rest) (rest ++ tail) lies.after (further bytes at (word first) (heads first bs rest ++ (rest ++ tail)) (at + 4) flat refl) bodies
      (omega (arith, whole)) (omega (arith, whole)) all (omega arith) (omega (arith, small, size)) (omega (arith, within, size))

  pub is_vector : 4 * first ≤ 4 * length bs + length rest → length (linked first bs rest) < 2 ^ 32 → vector_at bytes at ≡ Ok (at + 4, first)
  unfolding vector_at
  is_vector many small =
      let size = length_linked first bs rest in
      let within = lies_within in
      let whole = lies.whole in
      let count = u32_is bytes at first _ (omega (arith, whole)) (omega (arith, many, small, size)) flat in
      rw (count, ahead_is bytes at Vector 4 (omega (arith, within, size)), ahead_is bytes (at + 4) Vector (4 * first) (omega (arith, many, within, size))) refl

-- ---- the slots of a table

abbrev pub slot_place : ℕ → List ℕ → ℕ → Option ℕ
slot_place at ss i = if get_or ss i 0 == 0 then None else Some (at + get_or ss i 0)

abbrev pub AreWithin : ℕ → List ℕ → Type 0
AreWithin size [] = Unit {0}
AreWithin size (s ∷ ss) = (s ≤ size) × AreWithin size ss

each_within : (size : ℕ) (ss : List ℕ) (i : ℕ) → AreWithin size ss → get_or ss i 0 ≤ size
each_within size [] i all = omega arith
each_within size (s ∷ ss) zero all = all.0
each_within size (s ∷ ss) (suc i) all = each_within size ss i all.1

pub low : (bytes : List ℕ) (at n : ℕ) (rest : List ℕ) → at % 2 ≡ 0 → drop at bytes ≡ n ∷ 0 ∷ rest → integer_at bytes at w16 ≡ Ok n
low bytes at n rest even is = u16_is bytes at n 0 rest even is ∙ ap (λ (k : ℕ). Ok k) (omega arith)

chosen : (b : Bool) (x : Option ℕ) → ◌≡◌ {A = Result (Option ℕ) IpcFault} (if b then Ok None else Ok x) (Ok (if b then None else x))
chosen b x = grind arith

found : (bytes ss : List ℕ) (i entry : ℕ) (rest : List ℕ) → drop entry bytes ≡ places ss ++ rest → entry % 2 ≡ 0 → i < length ss → integer_at bytes (entry + 2 * i) w16 ≡ Ok (get_or ss i 0)
found bytes [] i entry rest is even lt = absurd (omega arith)
found bytes (s ∷ ss) zero entry rest is even lt = subst (λ n. integer_at bytes n w16 ≡ Ok s) (omega arith) (low bytes entry s (places ss ++ rest) even is)
found bytes (s ∷ ss) (suc i) entry rest is even lt =
    let next = found bytes ss i (entry + 2) rest (by_place bytes entry (places (s ∷ ss) ++ rest) 2 is) (omega (arith, even)) (omega arith) in
    subst (λ n. integer_at bytes n w16 ≡ Ok (get_or ss i 0)) (omega arith) next

-- a table that is opened
abbrev pub opened_table : List ℕ → List ℕ → List (List ℕ) → ℕ → Table
opened_table slots numbers bs at = record { at = at; vtable = at + table_size bs numbers; size = 4 + 2 * length slots }

length_places : (ss : List ℕ) → length (places ss) ≡ 2 * length ss
length_places [] = refl
length_places (s ∷ ss) = let rest = length_places ss in omega (arith, rest)

module _ (slots numbers : List ℕ) (bs : List (List ℕ)) where
  abbrev size : ℕ
  size = table_size bs numbers

  abbrev first : ℕ
  first = 2 ^ 32 - size

  abbrev vtable : List ℕ
  vtable = (4 + 2 * length slots) ∷ 0 ∷ size ∷ 0 ∷ places slots

  pub length_table : length (table_block slots numbers bs) ≡ rounded (table_size bs numbers + (4 + 2 * length slots)) + lengths bs
  length_table = grind (arith, length_linked, length-append, length_places)

  pub whole_table : AreWhole bs → length (table_block slots numbers bs) % 8 ≡ 0
  whole_table all = let long = length_table in let whole = whole_lengths bs all in omega (arith, long, whole)

  module _ (bytes : List ℕ) (at : ℕ) (lies : Lies (table_block slots numbers bs) bytes at) where
    abbrev behind : List ℕ
    behind = tail bytes at first bs (numbers ++ vtable) lies

    ends_at : at + size + (4 + 2 * length slots) ≤ length bytes
    ends_at = let within = lies_within bytes at first bs (numbers ++ vtable) lies in let long = length_table in omega (arith, within, long)

    numbers_at : drop (at + (4 + 4 * length bs)) bytes ≡ numbers ++ (vtable ++ behind)
    numbers_at =
        let o = offsets 4 (rounded (4 + (4 * length bs + length (numbers ++ vtable)))) bs in
        let long = length_offsets 4 (rounded (4 + (4 * length bs + length (numbers ++ vtable)))) bs in
        let is : drop at bytes ≡ word first ++ (o ++ (numbers ++ (vtable ++ behind))) = flat bytes at first bs (numbers ++ vtable) lies ∙ ap (λ l. word first ++ (o ++ l)) (append_assoc numbers vtable behind) in
        let one = further bytes at (word first) (o ++ (numbers ++ (vtable ++ behind))) (at + 4) is refl in
        further bytes (at + 4) o (numbers ++ (vtable ++ behind)) (at + (4 + 4 * length bs)) one (omega (arith, long))

    vtable_at_size : drop (at + size) bytes ≡ vtable ++ behind
    vtable_at_size = further bytes (at + (4 + 4 * length bs)) numbers (vtable ++ behind) (at + size) numbers_at (omega arith)

    module _ (fourth : length numbers % 4 ≡ 0) (few : size ≤ 2 ^ 31) (all : AreWithin size slots) where
      opened : opened_at bytes at ≡ Ok (opened_table slots numbers bs at)
      unfolding opened_at
      opened =
          let whole = lies.whole in
          let ended = ends_at in
          let even : ((4 + 2 * length slots) % 2 == 0) ≡ true = eq-eqb ((4 + 2 * length slots) % 2) 0 (omega arith) in
          let back = vtable_is bytes at size _ (omega (arith, whole)) (omega arith) few (omega (arith, ended)) (flat bytes at first bs (numbers ++ vtable) lies) in
          let long = low bytes (at + size) (4 + 2 * length slots) _ (omega (arith, whole, fourth)) vtable_at_size in
          rw (back, long, ahead_is bytes (at + size) Vtable (4 + 2 * length slots) ended, even) refl

      by_test : (i : ℕ) (b : Bool) → nat_lt i (length slots) ≡ b → slot_at bytes (opened_table slots numbers bs at) i ≡ Ok (slot_place at slots i)
      unfolding slot_at
      by_test i true is =
          let lt = ltb-true i (length slots) is in
          let ended = ends_at in
          let whole = lies.whole in
          let s = get_or slots i 0 in
          let got = found bytes slots i (at + size + 4) behind (by_place bytes (at + size) (vtable ++ behind) 4 vtable_at_size) (omega (arith, whole, fourth)) lt in
          let place : at + size + 4 + 2 * i ≡ at + size + (4 + 2 * i) = omega arith in
          let here = subst (λ n. integer_at bytes n w16 ≡ Ok s) place got in
          let near = each_within size slots i all in
          let entry_is = ahead_is bytes (at + size) Vtable (4 + 2 * i) (omega (arith, ended, lt)) in
          rw (le-ltb (4 + 2 * length slots) (6 + 2 * i) (omega (arith, lt)), entry_is, here, ahead_is bytes at Slot s (omega (arith, ended, near))) (chosen (s == 0) (Some (at + s)))
      by_test i false is =
          let le = ltb-false i (length slots) is in
          rw (lt-ltb (4 + 2 * length slots) (6 + 2 * i) (omega (arith, le)), get_or_past slots i 0 le) refl

-- what is read of a table: its slots, where its offsets lead, and its numbers
pub record Stands (slots numbers : List ℕ) (bs : List (List ℕ)) (bytes : List ℕ) (at : ℕ) : Type 0 where
  pub whole : at % 8 ≡ 0
  pub is_open : opened_at bytes at ≡ Ok (opened_table slots numbers bs at)
  pub slot : (i : ℕ) → slot_at bytes (opened_table slots numbers bs at) i ≡ Ok (slot_place at slots i)
  pub links : AreLinked bytes at 4 bs
  pub more : List ℕ
  pub number : (k : ℕ) → drop (at + (4 + 4 * length bs + k)) bytes ≡ drop k (numbers ++ more)

module _ (slots numbers : List ℕ) (bs : List (List ℕ)) (fourth : length numbers % 4 ≡ 0) (few : table_size bs numbers ≤ 2 ^ 31) (within : AreWithin (table_size bs numbers) slots)
    (wholes : AreWhole bs) (small : length (table_block slots numbers bs) < 2 ^ 32) where
  pub stands : (bytes : List ℕ) (at : ℕ) → Lies (table_block slots numbers bs) bytes at → Stands slots numbers bs bytes at
  stands bytes at lies =
      let all = numbers ++ (vtable slots numbers bs ++ behind slots numbers bs bytes at lies) in
      record {
        whole = lies.whole;
        is_open = opened slots numbers bs bytes at lies fourth few within;
        slot = λ i. by_test slots numbers bs bytes at lies fourth few within i (nat_lt i (length slots)) refl;
        links = are_linked bytes at (first slots numbers bs) bs (numbers ++ vtable slots numbers bs) lies wholes small;
        more = vtable slots numbers bs ++ behind slots numbers bs bytes at lies;
        number = λ k. subst (λ n. drop n bytes ≡ drop k all) (omega arith) (by_place bytes (at + (4 + 4 * length bs)) all k (numbers_at slots numbers bs bytes at lies));
      }

  -- a table holds what is read of it wherever it stands
  pub table_holds : {A : Type 0} (read : List ℕ → ℕ → Result (A × ℕ) IpcFault) (a : A)
      → ((bytes : List ℕ) (at : ℕ) → Stands slots numbers bs bytes at → (n : ℕ) × (n ≤ table_size bs numbers + (4 + 2 * length slots) + lengths bs) × (read bytes at ≡ Ok (a, n)))
      → Holds read (table_block slots numbers bs) a
  table_holds read a reads = record {
    whole = whole_table slots numbers bs wholes;
    reads = λ bytes at lies. let got = reads bytes at (stands bytes at lies) in let long = length_table slots numbers bs in (got.0, omega (arith, got.1, long), got.2);
  }
