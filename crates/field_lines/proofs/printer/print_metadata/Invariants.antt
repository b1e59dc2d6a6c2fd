use Rattle.json.specs.Written.{Written}
use Rattle.value_tokens.specs.Adds.{Adds}
use Rattle.field_lines.proofs.Prints.{texts_tokens}
use Rattle.field_lines.proofs.printer.print_metadata.Given as goal

-- what adds the texts that are left adds all from the start
abbrev pub invariant-loop-key : goal.invariant-loop-key
invariant-loop-key l = (end : Written) → Adds (texts_tokens l.key-iterator) l.out end → Adds (texts_tokens l.initial.key-iterator) l.initial.out end
