-- What the program has written in memory, by how it ended over a reader and writers.
use Rattle.std.proofs.Common.{◌≡◌, ◌∙◌, List, [], ◌++◌, Option, Some, sym, ap, subst, append-nil}
use Rattle.std.proofs.lemmas.Option.{same_Some}
use Rattle.geoarrow_fields.proofs.Terms.{Command, RunEnd, Done, InputFault, Memory, OutputFault}
use Rattle.geoarrow_fields.proofs.Terms.{Bytes, Means, RunsTo, ReadsAndWrites}
use Rattle.geoarrow_fields.specs.declared.program.ProgramEnd.{ProgramEnd}
use Rattle.geoarrow_fields.specs.declared.program.ProgramEnd.TheVariants.{Ran, Usage, NoUsage}
use Rattle.geoarrow_fields.specs.Program.{EndsSo, MeansAfter, NameNone, SaysUsage, Writes, usage}

-- over known bytes
module _ (command : Command) (input rest output : Bytes) where
  abbrev Run : (Bytes → Bytes → Type 0) → Type 0
  Run Form = ReadsAndWrites Form (Some input) (Some rest) (Some []) (Some output)

  whole : RunsTo command Done (Some input) (Some rest) (Some []) (Some output)
      → Means command Done input output
  whole ran =
      let read = ran.0.input in
      let same : input ≡ read = ran.0.consumed ∙ ap (λ l. read ++ l) ran.1 ∙ append-nil read in
      subst (λ x. Means command Done x output) (sym same)
      (subst (λ x. Means command Done read x) (sym ran.0.written) ran.0.is)

  so_far : (end : RunEnd) → (end ≡ Done → rest ≡ []) → Run (Means command end)
      → MeansAfter command end input output
  so_far end last ran =
      let is = subst (Means command end ran.input) (sym ran.written) ran.is in
      (ran.input, rest, ran.consumed, last, is)

  cut_off : (end : RunEnd) → (end ≡ Done → rest ≡ [])
      → Run (λ read front. (back : Bytes) × Means command end read (front ++ back))
      → (back : Bytes) × MeansAfter command end input (output ++ back)
  cut_off end last ran =
      let back = ran.is.0 in
      let is = subst (λ x. Means command end ran.input (x ++ back)) (sym ran.written) ran.is.1 in
      (back, (ran.input, rest, ran.consumed, last, is))

pub written : (words : List Bytes) (end : ProgramEnd) (input rest output errors : Bytes)
    → EndsSo words end (Some input) (Some rest) (Some []) (Some output) (Some []) (Some errors)
    → Writes words end input output errors
written words (Ran Done) input rest output errors (command, named, ran, same) =
    (command, named, whole command input rest output ran, same_Some _ _ same)
written words (Ran InputFault) input rest output errors (command, named, ran, same) =
    let after =
    so_far command input rest output InputFault (λ is. let no : ⊥ = cc in absurd no) ran in
    (command, named, after, same_Some _ _ same)
written words (Ran Memory) input rest output errors (command, named, ran, same) =
    let after =
    so_far command input rest output Memory (λ is. let no : ⊥ = cc in absurd no) ran in
    (command, named, after, same_Some _ _ same)
written words (Ran OutputFault) input rest output errors (command, is, (end, (last, ran)), same) =
    let after = cut_off command input rest output end last ran in
    (command, is, (end, after.0, after.1), same_Some _ _ same)
written words Usage input rest output errors (none, read, put, said) =
    (none, same_Some _ _ put, said)
written words NoUsage input rest output errors (none, read, put, (front, (back, is), said)) =
    (none, same_Some _ _ put, (back, subst (λ l. usage ≡ l ++ back) (sym said) is))

-- the usage is written where the words name no command
pub usage_ends : (words : List Bytes) (end : ProgramEnd) (i j o p e f : Option Bytes)
    → NameNone words → j ≡ i → p ≡ o → SaysUsage end e f → EndsSo words end i j o p e f
usage_ends words (Ran end) i j o p e f none read put said = absurd said
usage_ends words Usage i j o p e f none read put said = (none, read, put, said)
usage_ends words NoUsage i j o p e f none read put said = (none, read, put, said)
