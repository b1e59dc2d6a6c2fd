-- Only private contracts cite it. How far a run has come, inside the loop.
use Rattle.std.specs.Prelude.{◌≡◌, ◌⊎◌, ℕ, [], ◌∷◌, ◌++◌, Option, codes}
use Rattle.std.specs.Io.KnownBytes.{Appends, Keeps}
use Rattle.geoarrow_fields.specs.declared.Command.{Command}
use Rattle.geoarrow_fields.specs.declared.RunEnd.{RunEnd}
use Rattle.geoarrow_fields.specs.declared.RunEnd.TheVariants.{InputFault, Memory as OutOfMemory, OutputFault}
use Rattle.geoarrow_fields.specs.declared.output.Fault.{Fault}
use Rattle.geoarrow_fields.specs.declared.output.Fault.TheVariants.{Input, Memory, Output}
use Rattle.geoarrow_fields.specs.Lines.{Bytes, IsBegunLine, IsPastLimit}
use Rattle.geoarrow_fields.specs.Answer.{Answered, AnswersUntil, Means, ReadsAndWrites, RunsTo}

-- the answer to a line is written, with its line feed
abbrev pub AnswersLine : Command → Bytes → Bytes → Type 0
AnswersLine command line = Answered command [] (line ∷ [])

-- the place after `count` lines, before `later`
abbrev pub IsAt : ℕ → Bytes → ℕ → Bytes → Type 0
IsAt count later n l = (n ≡ count) × (l ≡ later)

-- a run has read `count` lines, which are answered, and then `later`; the last of the answers are held, and not written
abbrev pub HasCome : Command → ℕ → Bytes → Bytes → (in_old in_new out_old out_new : Option Bytes) → Type 0
HasCome command count later held = ReadsAndWrites (λ input output. AnswersUntil (IsAt count later) command [] input (output ++ held))

-- with this text last, a run has written what it means to write at such an end
abbrev pub IsMeant : Command → RunEnd → Bytes → (in_old in_new out_old out_new : Option Bytes) → Type 0
IsMeant command end last = ReadsAndWrites (λ input output. Means command end input (output ++ last))

-- a run that holds this is stopped by that fault
abbrev pub IsStopped : Command → Fault → Bytes → (in_old in_new out_old out_new : Option Bytes) → Type 0
IsStopped command Input held = IsMeant command InputFault (held ++ codes "error input\n")
IsStopped command Memory held = IsMeant command OutOfMemory (held ++ codes "error memory\n")
IsStopped command Output held = RunsTo command OutputFault

-- why a run is stopped after `count` lines, before `later`
abbrev pub IsCause : Fault → ℕ → Bytes → Type 0
IsCause Input count later = IsPastLimit count later ⊎ IsBegunLine later
IsCause Memory count later = ¬ IsPastLimit count later
IsCause Output count later = ⊥

-- some first bytes of what is held are written, and the others stay held
abbrev pub Moves : (held_old held_new : Bytes) → (out_old out_new : Option Bytes) → Type 0
Moves before after old new = (written : Bytes) × Appends old new written × (before ≡ written ++ after)

-- an output of this kind comes behind what is held, and some first bytes of that are written
abbrev pub Passes : (Bytes → Type 0) → (held_old held_new : Bytes) → (out_old out_new : Option Bytes) → Type 0
Passes Form before after old new = (output : Bytes) × Form output × Moves (before ++ output) after old new

-- where a fault ends an output of this kind: nothing comes without memory, or the writer fails and something is left
abbrev pub Breaks : Fault → (Bytes → Type 0) → (held_old held_new : Bytes) → (out_old out_new : Option Bytes) → Type 0
Breaks Input Form before after old new = ⊥
Breaks Memory Form before after old new = (after ≡ before) × Keeps old new
Breaks Output Form before after old new = (left : Bytes) × Passes Form before left old new
