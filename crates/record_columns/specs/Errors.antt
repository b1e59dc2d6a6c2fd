-- What a call that allocates returned, against what there is to read.
use Rattle.std.specs.Prelude.{◌≡◌, ℕ, List, Result, Ok, Err}
use Rattle.record_wire.specs.Fault.{broken}
use Rattle.record_wire.specs.declared.fault.Fault.{Fault}
use Rattle.record_wire.specs.declared.fault.Rule.{Rule}
use Rattle.record_columns.specs.declared.error.Refusal.{Refusal}
use Rattle.record_columns.specs.declared.error.Refusal.TheVariants as refusals
use Rattle.record_columns.specs.declared.error.RecordsError.{RecordsError}
use Rattle.record_columns.specs.declared.error.RecordsError.TheVariants as errors

-- the rule is broken that reading says; or it is out of memory
abbrev pub Refuses : {Y : Type 0} → Refusal → Result Y Rule → Type 0
Refuses (refusals.Rule rule) read = read ≡ Err rule
Refuses refusals.OutOfMemory read = Unit {0}

-- seen by view it is what reading gives, as is the rule that is broken; or it is out of memory
abbrev pub Makes : {X Y : Type 0} → (X → Y) → Result X Refusal → Result Y Rule → Type 0
Makes view (Ok x) read = read ≡ Ok (view x)
Makes view (Err e) read = Refuses e read

-- the same of a rule with the record that breaks it
abbrev pub Stops : {Y : Type 0} → RecordsError → Result Y Fault → Type 0
Stops (errors.Fault fault) read = read ≡ Err fault
Stops errors.OutOfMemory read = Unit {0}

abbrev pub Gives : {X Y : Type 0} → (X → Y) → Result X RecordsError → Result Y Fault → Type 0
Gives view (Ok x) read = read ≡ Ok (view x)
Gives view (Err e) read = Stops e read

-- the record at the front of the bytes is refused
abbrev pub refused : Refusal → List ℕ → RecordsError
refused (refusals.Rule rule) bytes = errors.Fault (broken rule bytes)
refused refusals.OutOfMemory bytes = errors.OutOfMemory
