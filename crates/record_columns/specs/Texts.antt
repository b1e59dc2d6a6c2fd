-- Metadata, as they stand in memory (Arrow, "The Arrow C data interface"): how many entries, and of
-- each the key and the text, both behind their length. What stands behind them is not looked at.
use Rattle.std.specs.Prelude.{ℕ, zero, suc, List, [], Option, Some, None, Result, Ok}
use Rattle.arrow_values.specs.Tree.{Metadata}
use Rattle.arrow_values.specs.Texts.{put_text}
use Rattle.record_wire.specs.Fault.{◌>>=◌}
use Rattle.record_wire.specs.Record.{number_at, utf8_at}
use Rattle.record_wire.specs.declared.fault.Rule.{Rule}

-- an entry is put to those before it; the last text of a key counts
unfoldable pub put_entry : Metadata → List ℕ → Result (Metadata × List ℕ) Rule
put_entry texts bytes = do
  key ← utf8_at bytes
  text ← utf8_at key.1
  Ok (put_text key.0 text.0 texts, text.1)

-- so many entries
unfoldable pub put_entries : ℕ → Metadata → List ℕ → Result Metadata Rule
put_entries zero texts bytes = Ok texts
put_entries (suc n) texts bytes = put_entry texts bytes >>= λ e. put_entries n e.0 e.1

unfoldable pub texts_at : List ℕ → Result Metadata Rule
texts_at bytes = number_at bytes >>= λ count. put_entries count.0 [] count.1

-- a structure without metadata has none
abbrev pub texts_in : Option (List ℕ) → Result Metadata Rule
texts_in None = Ok []
texts_in (Some bytes) = texts_at bytes
