-- What the calls over lines mean by the number of a command, and what they write.
use Rattle.std.specs.Prelude.{◌≡◌, ℕ, length}
use Rattle.geoarrow_fields.specs.declared.Command.{Command}
use Rattle.geoarrow_fields.specs.declared.Command.TheVariants.{Read, Infer, Canon, Columns}
use Rattle.geoarrow_fields.specs.declared.RunEnd.TheVariants.{Done as ToEnd}
use Rattle.geoarrow_fields.specs.Lines.{Bytes}
use Rattle.geoarrow_fields.specs.Answer.{Answers, Means}

-- the number of a command
abbrev pub number_of : Command → ℕ
number_of Read = 0
number_of Infer = 1
number_of Canon = 2
number_of Columns = 3

-- the line has an answer of that length under the command of the number, and this is done with it
pub record Gives (number : ℕ) (line : Bytes) (len : ℕ) (Done : Bytes → Type 0) : Type 0 where
  pub command : Command
  pub answer : Bytes
  pub is : number ≡ number_of command
  pub answers : Answers command line answer
  pub len_is : length answer ≡ len
  pub done : Done answer

-- the input has this output of that length under the command of the number, and this is done with it
pub record RunGives (number : ℕ) (input : Bytes) (len : ℕ) (Done : Bytes → Type 0) : Type 0 where
  pub command : Command
  pub output : Bytes
  pub is : number ≡ number_of command
  pub means : Means command ToEnd input output
  pub len_is : length output ≡ len
  pub done : Done output
