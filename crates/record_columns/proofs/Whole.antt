-- What is made of the last structure is made of the whole tree.
use Rattle.std.proofs.Common.{ℕ, ◌-◌, List, [], Result, Ok, Err, refl}
use Rattle.arrow_columns.specs.Types.{ColumnTree}
use Rattle.record_wire.specs.Fault.{◌>>=◌, within}
use Rattle.record_wire.specs.Record.{Structure}
use Rattle.record_wire.specs.Trees.{Waiting, head_at, root_at, steps, put_next, whole_at}
use Rattle.record_wire.specs.declared.fault.Fault.{Fault}
use Rattle.record_columns.specs.Columns.{column_of, waiting_at, LastAs, last_as, IsMadeOf}

abbrev Left : Type 0
Left = Waiting ColumnTree × List ℕ

module _ {A : Type 0} (make : LastAs A) where
  by_root : (all : Left) (root : Result Structure Fault)
      → IsMadeOf make (root >>= λ s. Ok (s, all.0.0)) (root >>= λ s. within all.1 (make s all.0.0))
  by_root all (Ok s) = (all.1, refl)
  by_root all (Err fault) = refl

  by_all : (left : Result Left Fault)
      → IsMadeOf make (left >>= λ all. root_at all.0.1 all.1 >>= λ s. Ok (s, all.0.0))
      (left >>= λ all. root_at all.0.1 all.1 >>= λ s. within all.1 (make s all.0.0))
  by_all (Ok all) = by_root all (root_at all.0.1 all.1)
  by_all (Err fault) = refl

  by_head : (head : Result (ℕ × List ℕ) Fault)
      → IsMadeOf make
      (head >>= λ h. steps (put_next column_of) (h.0 - 1) ([], []) h.1
      >>= λ all. root_at all.0.1 all.1 >>= λ s. Ok (s, all.0.0))
      ((head >>= λ h. steps (put_next column_of) (h.0 - 1) ([], []) h.1)
      >>= λ all. root_at all.0.1 all.1 >>= λ s. within all.1 (make s all.0.0))
  by_head (Ok h) = by_all (steps (put_next column_of) (h.0 - 1) ([], []) h.1)
  by_head (Err fault) = refl

  pub made_of_whole : (bytes : List ℕ)
      → IsMadeOf make (whole_at column_of bytes) (last_as make bytes)
  unfolding whole_at last_as waiting_at
  made_of_whole bytes = by_head (within bytes (head_at bytes))
