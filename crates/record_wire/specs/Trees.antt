-- Records of whole trees (docs/FORMAT.md, 6.2): what lies in a structure stands before it, so that
-- a reader keeps those that wait for the structure in which they lie.
use Rattle.std.specs.Prelude.{◌≡◌, ℕ, zero, suc, ◌+◌, ◌-◌, ◌<◌, ◌^◌, ◌⊎◌, Bool, true, false, not}
use Rattle.std.specs.Prelude.{◌&&◌, List, [], ◌∷◌, ◌++◌, length, take, drop, replicate, Result, Ok}
use Rattle.std.specs.Prelude.{nat_le, ◌==◌}
use Rattle.std.specs.List.{list_all}
use Rattle.record_wire.specs.Fault.{◌>>=◌, kept, within}
use Rattle.record_wire.specs.Record.{Structure, number_at, record_at}
use Rattle.record_wire.specs.Write.{size_of, has_nuls}
use Rattle.record_wire.specs.declared.fault.Fault.{Fault}
use Rattle.record_wire.specs.declared.fault.Rule.{Rule}
use Rattle.record_wire.specs.declared.fault.Rule.TheVariants.{Head, Count, Depth, Rest}
use Rattle.record_wire.specs.declared.write.WriteError.{WriteError}
use Rattle.record_wire.specs.declared.write.WriteError.TheVariants.{Nul, TooLarge, TooDeep}
use Rattle.record_wire.specs.declared.write.WriteError.TheVariants.{OutOfMemory}

-- how many records there are, and the bytes of these
unfoldable pub head_at : List ℕ → Result (ℕ × List ℕ) Rule
head_at bytes = do
  count ← number_at bytes
  none ← number_at count.1
  _ ← kept (not (count.0 == 0) && (none.0 == 0)) Head
  Ok (count.0, none.1)

-- how many lie right in a structure: its children, and behind them its dictionary
abbrev pub dictionary_count : Bool → ℕ
dictionary_count true = 1
dictionary_count false = 0

abbrev pub inner_count : Structure → ℕ
inner_count s = s.children + dictionary_count s.has_dictionary

-- how many of those that wait, by their levels, do not lie in a structure
abbrev pub others_count : Structure → List ℕ → ℕ
others_count s levels = length levels - inner_count s

abbrev pub are_at : ℕ → List ℕ → Bool
are_at level levels = list_all (λ l. l == level) levels

-- that many, where those that lie in it are there, and one level below it
unfoldable pub place_of : Structure → List ℕ → Result ℕ Rule
place_of s levels = do
  _ ← kept (nat_le (inner_count s) (length levels)) Count
  _ ← kept (nat_le s.level 61) Depth
  _ ← kept (are_at (s.level + 1) (drop (others_count s levels) levels)) Depth
  Ok (others_count s levels)

-- in the last structure lie all that wait, it lies in none, and nothing stands behind it
unfoldable pub ended : Structure → List ℕ → List ℕ → Result Structure Rule
ended s levels rest = do
  place ← place_of s levels
  _ ← kept (place == 0) Count
  _ ← kept (s.level == 0) Depth
  _ ← kept (length rest == 0) Rest
  Ok s

unfoldable pub root_at : List ℕ → List ℕ → Result Structure Fault
root_at levels bytes = do
  one ← record_at bytes
  within bytes (ended one.0 levels one.1)

-- so many steps, each from a state and the bytes that are left
unfoldable pub steps : {S : Type 0} → (S → List ℕ → Result (S × List ℕ) Fault) → ℕ → S → List ℕ
    → Result (S × List ℕ) Fault
steps put zero s bytes = Ok (s, bytes)
steps put (suc n) s bytes = put s bytes >>= λ x. steps put n x.0 x.1

-- what a structure becomes, by what those became that lie right in it
abbrev pub ValueOf : Type 0 → Type 0
ValueOf V = Structure → List V → Result V Rule

-- those that wait: what each became, and its level
abbrev pub Waiting : Type 0 → Type 0
Waiting V = List V × List ℕ

-- the structure at the front of the bytes, in place of those that lie in it, which are the last
unfoldable pub put_next : {V : Type 0} → ValueOf V → Waiting V → List ℕ
    → Result (Waiting V × List ℕ) Fault
put_next value_of w bytes = do
  one ← record_at bytes
  place ← within bytes (place_of one.0 w.1)
  value ← within bytes (value_of one.0 (drop place w.0))
  Ok ((take place w.0 ++ value ∷ [], take place w.1 ++ one.0.level ∷ []), one.1)

-- the last structure, and what those became that lie right in it
unfoldable pub whole_at : {V : Type 0} → ValueOf V → List ℕ → Result (Structure × List V) Fault
whole_at value_of bytes = do
  head ← within bytes (head_at bytes)
  all ← steps (put_next value_of) (head.0 - 1) ([], []) head.1
  root ← root_at all.0.1 all.1
  Ok (root, all.0.0)

-- those that wait, and behind them these of one level
abbrev pub waiting_with : {V : Type 0} → Waiting V → List V → ℕ → Waiting V
waiting_with w vs level = (w.0 ++ vs, w.1 ++ replicate (length vs) level)

-- so many records which, wherever they stand, put these of one level behind those that wait
abbrev pub Adds : {V : Type 0} → ValueOf V → ℕ → List ℕ → List V → ℕ → Type 0
Adds value_of n bytes vs level =
    (m : ℕ) (w : Waiting _) (rest : List ℕ) → length w.0 ≡ length w.1
    → steps (put_next value_of) (n + m) w (bytes ++ rest)
    ≡ steps (put_next value_of) m (waiting_with w vs level) rest

-- why so many records are not written
abbrev pub RefusesCount : WriteError → ℕ → Type 0
RefusesCount Nul n = ⊥
RefusesCount TooLarge n = 4000000 < n
RefusesCount TooDeep n = ⊥
RefusesCount OutOfMemory n = Unit {0}

-- why a record is not put behind others, of which there are then so many
abbrev pub RefusesRecord : WriteError → ℕ → Structure → Type 0
RefusesRecord Nul n s = has_nuls s ≡ true
RefusesRecord TooLarge n s = (4000000 < n) ⊎ (2 ^ 28 < size_of s)
RefusesRecord TooDeep n s = 61 < s.level
RefusesRecord OutOfMemory n s = Unit {0}

-- why a whole tree is not written
abbrev pub RefusesWhole : WriteError → ℕ → List ℕ → Structure → Type 0
RefusesWhole Nul n bytes s = has_nuls s ≡ true
RefusesWhole TooLarge n bytes s = (4000000 < n) ⊎ (2 ^ 28 < 8 + (length bytes + size_of s))
RefusesWhole TooDeep n bytes s = ⊥
RefusesWhole OutOfMemory n bytes s = Unit {0}
