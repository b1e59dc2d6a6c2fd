-- The entries of a message at ARROW:schema, by what the call that reads them answered.
use Rattle.std.proofs.Common.{◌≡◌, ℕ, ◌*◌, ◌≤◌, ◌<◌, true, false, nat_le, List, [], length, map, Result, Ok, Err, refl, sym, ap, ◌∙◌, arith}
use Rattle.std.proofs.lemmas.Bool.Decides.{nat_tests}
use Rattle.arrow_ipc.specs.Schema.{message_in}
use Rattle.arrow_ipc.specs.Entries.{EntriesTree, entries_in, entries_tree, entries_of_message, AreEntries}
use Rattle.arrow_ipc.specs.declared.entries.SchemaEntries.{SchemaEntries}
use Rattle.arrow_ipc.specs.declared.fault.IpcFault.{IpcFault}
use Rattle.arrow_ipc.specs.declared.fault.IpcError.TheVariants.{Broken, Budget}
use Rattle.parquet_columns.specs.Entries.{entries_within, message_entries, stored_entries}

within_size : (size n : ℕ) (t : EntriesTree) → n ≤ 8 * size → entries_within size (Ok (t, n)) ≡ t.columns
within_size size n t few =
    let is : nat_le n (8 * size) ≡ true = grind (arith, nat_tests) in
    rw is refl

past_size : (size n : ℕ) (t : EntriesTree) → 8 * size < n → entries_within size (Ok (t, n)) ≡ []
past_size size n t many =
    let is : nat_le n (8 * size) ≡ false = grind (arith, nat_tests) in
    rw is refl

-- they are those that were read
pub are_read : (m : List ℕ) (e : SchemaEntries) → AreEntries (message_in m) entries_of_message (Ok e) → map entries_in e.columns.items ≡ stored_entries m
are_read m e is = sym (by_message (message_in m) is)
  where
    by_message : (there : Result (List ℕ) IpcFault) → AreEntries there entries_of_message (Ok e) → message_entries there ≡ map entries_in e.columns.items
    by_message (Ok bytes) are = ap (entries_within (length bytes)) are.2 ∙ within_size (length bytes) are.0 (entries_tree e) are.1
    by_message (Err fault) are = absurd (cc)

-- there are none where a rule is broken
pub are_broken : (m : List ℕ) (fault : IpcFault) → AreEntries (message_in m) entries_of_message (Err (Broken fault)) → stored_entries m ≡ []
are_broken m fault is = by_message (message_in m) is
  where
    by_message : (there : Result (List ℕ) IpcFault) → AreEntries there entries_of_message (Err (Broken fault)) → message_entries there ≡ []
    by_message (Ok bytes) are = ap (entries_within (length bytes)) are
    by_message (Err other) are = refl

-- and none where they take more
pub are_many : (m : List ℕ) (at : ℕ) → AreEntries (message_in m) entries_of_message (Err (Budget at)) → stored_entries m ≡ []
are_many m at is = by_message (message_in m) is
  where
    by_size : (size : ℕ) (there : Result (EntriesTree × ℕ) IpcFault) → ((v : EntriesTree × ℕ) → there ≡ Ok v → 8 * size < v.1) → entries_within size there ≡ []
    by_size size (Ok v) many = past_size size v.1 v.0 (many v refl)
    by_size size (Err fault) many = refl

    by_message : (there : Result (List ℕ) IpcFault) → AreEntries there entries_of_message (Err (Budget at)) → message_entries there ≡ []
    by_message (Ok bytes) are = by_size (length bytes) (entries_of_message bytes) are
    by_message (Err other) are = refl
