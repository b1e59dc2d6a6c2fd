-- What is read of a record that is written.
use Rattle.std.proofs.Common.{◌≡◌, ℕ, ◌+◌, ◌-◌, ◌%◌, ◌^◌, ◌<◌, ◌≤◌, ◌==◌, Bool, true, false, ◌||◌}
use Rattle.std.proofs.Common.{List, ◌∷◌, ◌++◌, length, take, replicate, Option, Some, None, Ok}
use Rattle.std.proofs.Common.{refl, ap, arith}
use Rattle.std.specs.Str.{is_utf8}
use Rattle.std.proofs.lemmas.Nat.{from_le_bytes-to_le_bytes_4}
use Rattle.std.proofs.lemmas.List.{take_at, take_all, drop_at, length-append, length-replicate}
use Rattle.std.proofs.lemmas.Bool.{le-leb, lt-ltb, eq-eqb}
use Rattle.record_wire.specs.Record.{Structure, structure_of, are_marked, has_dictionary, has_name}
use Rattle.record_wire.specs.Record.{has_metadata, option_if, has_nul, number_at, numbers_at}
use Rattle.record_wire.specs.Record.{bytes_at, text_at, parts_at, size_at, record_at}
use Rattle.record_wire.specs.Write.{word, text_of, dictionary_mark, name_mark, metadata_mark}
use Rattle.record_wire.specs.Write.{marks_of, room_of, size_of, head_of, text_then, texts_of}
use Rattle.record_wire.specs.Write.{bytes_of, IsSound, IsReadAs}
use Rattle.record_wire.specs.declared.record.Numbers.{Numbers}

pub zeros_put : (bytes : List ℕ) (n : ℕ)
    → take (length bytes + n) bytes ++ replicate (length bytes + n - length bytes) 0
    ≡ bytes ++ replicate n 0
zeros_put bytes n =
    let more : length bytes + n - length bytes ≡ n = omega arith in
    rw (take_all (length bytes + n) bytes (omega arith), more) refl

pub number_is : (n : ℕ) (rest : List ℕ) → n < 2 ^ 32 → number_at (word n ++ rest) ≡ Ok (n, rest)
unfolding number_at word
number_is n rest small =
    let four : 4 ≤ length (word n ++ rest) = omega arith in
    let same = from_le_bytes-to_le_bytes_4 n small in
    rw (le-leb 4 (length (word n ++ rest)) four) (ap (λ (m : ℕ). Ok (m, rest)) same)

bytes_are : (xs rest : List ℕ) → bytes_at (length xs) (xs ++ rest) ≡ Ok (xs, rest)
unfolding bytes_at
bytes_are xs rest =
    let le : length xs ≤ length (xs ++ rest) = let l = length-append xs rest in omega (arith, l) in
    rw (
      le-leb (length xs) (length (xs ++ rest)) le,
      take_at xs rest (length xs) refl,
      drop_at xs rest (length xs) refl,
    ) refl

text_is : (xs rest : List ℕ) → has_nul xs ≡ false → is_utf8 xs ≡ true
    → text_at (length xs) (text_then xs rest) ≡ Ok (xs, rest)
unfolding text_at
text_is xs rest none valid = rw (bytes_are xs (0 ∷ rest), none, valid) refl

-- the numbers of a structure behind its size, and those as they are written
numbers_of : Structure → Numbers
numbers_of s = record {
  children = s.children;
  marks = marks_of s;
  flags = s.flags;
  level = s.level;
  metadata = length (text_of s.metadata);
  format = length s.format;
  name = length (text_of s.name);
}

abbrev numbers_then : Structure → List ℕ → List ℕ
numbers_then s rest =
    word s.children ++ (word (marks_of s) ++ (word s.flags ++ (word s.level ++
    (word (length (text_of s.metadata)) ++ (word (length s.format) ++
    (word (length (text_of s.name)) ++ rest))))))

-- what is read of marks
abbrev of_marks : Bool → Option (List ℕ) → Option (List ℕ) → ℕ
of_marks d n m = dictionary_mark d + (name_mark n + metadata_mark m)

record AreMarks (d : Bool) (n m : Option (List ℕ)) : Type 0 where
  small : of_marks d n m < 8
  dictionary : has_dictionary (of_marks d n m) ≡ d
  name : option_if (has_name (of_marks d n m)) (text_of n) ≡ n
  metadata : option_if (has_metadata (of_marks d n m)) (text_of m) ≡ m
  named : (has_name (of_marks d n m) || (length (text_of n) == 0)) ≡ true
  told : (has_metadata (of_marks d n m) || (length (text_of m) == 0)) ≡ true

marks_are : (d : Bool) (n m : Option (List ℕ)) → AreMarks d n m
marks_are true None None = record {
  small = omega arith;
  dictionary = refl;
  name = refl;
  metadata = refl;
  named = refl;
  told = refl;
}
marks_are true None (Some m) = record {
  small = omega arith;
  dictionary = refl;
  name = refl;
  metadata = refl;
  named = refl;
  told = refl;
}
marks_are true (Some n) None = record {
  small = omega arith;
  dictionary = refl;
  name = refl;
  metadata = refl;
  named = refl;
  told = refl;
}
marks_are true (Some n) (Some m) = record {
  small = omega arith;
  dictionary = refl;
  name = refl;
  metadata = refl;
  named = refl;
  told = refl;
}
marks_are false None None = record {
  small = omega arith;
  dictionary = refl;
  name = refl;
  metadata = refl;
  named = refl;
  told = refl;
}
marks_are false None (Some m) = record {
  small = omega arith;
  dictionary = refl;
  name = refl;
  metadata = refl;
  named = refl;
  told = refl;
}
marks_are false (Some n) None = record {
  small = omega arith;
  dictionary = refl;
  name = refl;
  metadata = refl;
  named = refl;
  told = refl;
}
marks_are false (Some n) (Some m) = record {
  small = omega arith;
  dictionary = refl;
  name = refl;
  metadata = refl;
  named = refl;
  told = refl;
}

module _ (s : Structure) (ok : IsSound s) where
  marks : AreMarks s.has_dictionary s.name s.metadata
  marks = marks_are s.has_dictionary s.name s.metadata

  numbers_are : (rest : List ℕ) → numbers_at (numbers_then s rest) ≡ Ok (numbers_of s, rest)
  unfolding numbers_at numbers_of
  numbers_are rest =
      let size = ok.size in
      rw (
        number_is s.children _ ok.children,
        number_is (marks_of s) _ (let m = marks.small in omega (arith, m)),
        number_is s.flags _ ok.flags,
        number_is s.level _ ok.level,
        number_is (length (text_of s.metadata)) _ (omega (arith, size)),
        number_is (length s.format) _ (omega (arith, size)),
        number_is (length (text_of s.name)) _ (omega (arith, size)),
      ) refl

  is_marked : are_marked (numbers_of s) ≡ true
  unfolding numbers_of
  is_marked = rw (lt-ltb (marks_of s) 8 marks.small, marks.named, marks.told) refl

  structure_is : structure_of (numbers_of s) (text_of s.metadata) s.format (text_of s.name) ≡ s
  unfolding numbers_of
  structure_is = rw (marks.dictionary, marks.name, marks.metadata) refl

  no_nul : (a b : Bool) → (a || b) ≡ false → (a ≡ false) × (b ≡ false)
  no_nul true true e = (e, e)
  no_nul true false e = (e, refl)
  no_nul false b e = (refl, e)

  parts_are : (pad : List ℕ)
      → parts_at (numbers_then s (text_of s.metadata ++
      text_then s.format (text_then (text_of s.name) pad))) ≡ Ok s
  unfolding parts_at bytes_at numbers_of
  parts_are pad =
      let none = no_nul (has_nul s.format) (has_nul (text_of s.name)) ok.no_nuls in
      rw (
        numbers_are _,
        is_marked,
        bytes_are (text_of s.metadata) _,
        text_is s.format _ none.0 ok.format,
        text_is (text_of s.name) pad none.1 ok.name,
      ) (ap (λ (t : Structure). Ok t) structure_is)

record_is : (s : Structure) (b rest : List ℕ) (n : ℕ) → 4 + length b ≡ n → n < 2 ^ 32
    → n % 8 ≡ 0 → 32 ≤ n → parts_at b ≡ Ok s → record_at ((word n ++ b) ++ rest) ≡ Ok (s, rest)
unfolding record_at size_at word
record_is s b rest n count small eighth head parts =
    let all = word n ++ b in
    let size : number_at (all ++ rest) ≡ Ok (n, b ++ rest) = number_is n (b ++ rest) small in
    let whole : length all ≡ n = let k = length-append (word n) b in omega (arith, k, count) in
    let le : n ≤ length (all ++ rest) = let k = length-append all rest in omega (arith, k, whole) in
    rw (
      size,
      eq-eqb (n % 8) 0 eighth,
      le-leb 32 n head,
      le-leb n (length (all ++ rest)) le,
      take_at all rest n whole,
      drop_at all rest n whole,
      parts,
    ) refl

length-texts_of : (s : Structure) → 32 + length (texts_of s) ≡ size_of s
length-texts_of s =
    let pad = replicate (size_of s - room_of s) 0 in
    let name = text_then (text_of s.name) pad in
    let a = length-append (text_of s.metadata) (text_then s.format name) in
    let b = length-append s.format (0 ∷ name) in
    let c = length-append (text_of s.name) (0 ∷ pad) in
    let d = length-replicate {A = ℕ} (size_of s - room_of s) 0 in
    omega (arith, a, b, c, d)

pub length-bytes_of : (s : Structure) → length (bytes_of s) ≡ size_of s
unfolding word
length-bytes_of s = let k = length-append (head_of s) (texts_of s) in
    let t = length-texts_of s in omega (arith, k, t)

pub length-headed : (n : ℕ) (below r b : List ℕ) → b ≡ (word n ++ (word 0 ++ below)) ++ r
    → length b ≡ 8 + (length below + length r)
unfolding word
length-headed n below r b is = rw is (let k = length-append below r in omega (arith, k))

pub sound_reads_back : (s : Structure) → IsSound s → IsReadAs (bytes_of s) s
unfolding word
sound_reads_back s ok rest =
    let size = ok.size in let count = length-texts_of s in
    let body = numbers_then s (texts_of s) in
    let all : 4 + length body ≡ size_of s = omega (arith, count) in
    let small : size_of s < 2 ^ 32 = omega (arith, size) in
    let read = parts_are s ok (replicate (size_of s - room_of s) 0) in
    record_is s body rest (size_of s) all small (omega arith) (omega arith) read
