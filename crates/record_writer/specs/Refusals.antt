-- Errors as those of what calls.
use Rattle.std.specs.Prelude.{ℕ}
use Rattle.record_wire.specs.declared.write.WriteError as wire
use Rattle.record_wire.specs.declared.write.WriteError.TheVariants as wires
use Rattle.record_writer.specs.declared.error.Refusal.{Refusal}
use Rattle.record_writer.specs.declared.error.Refusal.TheVariants as refusals
use Rattle.record_writer.specs.declared.error.WriteError.{WriteError}
use Rattle.record_writer.specs.declared.error.WriteError.TheVariants as errors

abbrev pub refusal_of : wire.WriteError → Refusal
refusal_of wires.Nul = refusals.Nul
refusal_of wires.TooLarge = refusals.TooLarge
refusal_of wires.TooDeep = refusals.TooDeep
refusal_of wires.OutOfMemory = refusals.OutOfMemory

-- the column with that index is refused
abbrev pub with_index : Refusal → ℕ → WriteError
with_index refusals.Format i = errors.Column i
with_index refusals.Nul i = errors.Nul i
with_index refusals.TooDeep i = errors.TooDeep i
with_index refusals.TooLarge i = errors.TooLarge
with_index refusals.OutOfMemory i = errors.OutOfMemory
