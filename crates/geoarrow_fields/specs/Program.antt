-- The program: what it reads, what it writes to each output, and how it ends.
use Rattle.std.specs.Prelude.{◌≡◌, ℕ, List, [], ◌++◌, Option, codes}
use Rattle.std.specs.Io.KnownBytes.{Appends}
use Rattle.geoarrow_fields.specs.declared.Command.{Command}
use Rattle.geoarrow_fields.specs.declared.RunEnd.{RunEnd}
use Rattle.geoarrow_fields.specs.declared.RunEnd.TheVariants.{Done, OutputFault}
use Rattle.geoarrow_fields.specs.declared.program.ProgramEnd.{ProgramEnd}
use Rattle.geoarrow_fields.specs.declared.program.ProgramEnd.TheVariants.{Ran, Usage, NoUsage}
use Rattle.geoarrow_fields.specs.declared.program.Outcome.{Outcome}
use Rattle.geoarrow_fields.specs.Lines.{Bytes}
use Rattle.geoarrow_fields.specs.Arguments.{Name}
use Rattle.geoarrow_fields.specs.Answer.{AppendsSome, FrontOf, Means, RunsTo}

-- what is written if the words name no command
abbrev pub usage : Bytes
usage = codes "usage: geoarrow_fields read|infer|canon|columns\n"

-- the exit status
abbrev pub exit_status : ProgramEnd → ℕ
exit_status (Ran Done) = 0
exit_status (Ran _) = 1
exit_status Usage = 2
exit_status NoUsage = 2

-- the words name no command
abbrev pub NameNone : List Bytes → Type 0
NameNone words = (command : Command) → ¬ Name words command

-- the usage is written, or a front part of it
abbrev pub SaysUsage : ProgramEnd → (err_old err_new : Option Bytes) → Type 0
SaysUsage (Ran end) e f = ⊥
SaysUsage Usage e f = Appends e f usage
SaysUsage NoUsage e f = AppendsSome (FrontOf (λ whole. usage ≡ whole)) e f

-- the program ends so over a reader, a writer and a writer of errors. If the words name no
-- command, nothing is read, and nothing is written but the usage
abbrev pub EndsSo : List Bytes → ProgramEnd
    → (in_old in_new out_old out_new err_old err_new : Option Bytes) → Type 0
EndsSo words (Ran end) i j o p e f =
    (command : Command) × Name words command × RunsTo command end i j o p × (f ≡ e)
EndsSo words end i j o p e f = NameNone words × (j ≡ i) × (p ≡ o) × SaysUsage end e f

-- a run that ends so means to write this for the bytes that it read, which are a front part of the
-- input, and all of it at `Done`
abbrev pub MeansAfter : Command → RunEnd → Bytes → Bytes → Type 0
MeansAfter command end input output =
    (read : Bytes) × (rest : Bytes) × (input ≡ read ++ rest) × (end ≡ Done → rest ≡ [])
    × Means command end read output

-- what the program writes to each output for an input where it ends so: the answers to all lines,
-- in order; a front part of what it means to, where the output fails; the answers to some first
-- lines, and then why there are no more; the usage alone, or a front part of it
abbrev pub Writes : List Bytes → ProgramEnd → Bytes → (output errors : Bytes) → Type 0
Writes words (Ran Done) input output errors =
    (command : Command) × Name words command × Means command Done input output × (errors ≡ [])
Writes words (Ran OutputFault) input output errors =
    (command : Command) × Name words command
    × ((meant : RunEnd) × (back : Bytes) × MeansAfter command meant input (output ++ back))
    × (errors ≡ [])
Writes words (Ran end) input output errors =
    (command : Command) × Name words command × MeansAfter command end input output × (errors ≡ [])
Writes words Usage input output errors = NameNone words × (output ≡ []) × (errors ≡ usage)
Writes words NoUsage input output errors =
    NameNone words × (output ≡ []) × ((back : Bytes) × (usage ≡ errors ++ back))

-- what the program does with these words and this input
abbrev pub IsOutcome : List Bytes → Bytes → Outcome → Type 0
IsOutcome words input outcome =
    Writes words outcome.end input outcome.output.items outcome.errors.items
    × (outcome.status ≡ exit_status outcome.end)
