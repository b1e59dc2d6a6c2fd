-- what is read so far, and how much is left to be read
use Rattle.std.proofs.Common.{◌≡◌, ◌+◌, ◌≤◌, List, ℕ, ◌++◌, length, take, vec_len}
use Rattle.std.specs.Io.KnownBytes.{Consumes}
use Rattle.line_reader.proofs.source.read_up_to.Given as goal

abbrev pub invariant-loop-left : goal.invariant-loop-left
invariant-loop-left g l =
    (l.end ≤ vec_len l.bytes) × (more : List ℕ) × (take l.end l.bytes.items ≡ l.initial.bytes.items ++ more) × Consumes (g.R.Read.remaining l.initial.source) (g.R.Read.remaining l.source) more × (length more + l.left ≡ l.most)

abbrev pub decreases-loop-left : goal.decreases-loop-left
decreases-loop-left g l = l.left
