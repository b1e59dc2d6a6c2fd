use Rattle.std.proofs.Common.{map, take, string_bytes}
use Rattle.json.specs.Json.{string}
use Rattle.column_reports.specs.Objects.{AddsValues}
use Rattle.column_reports.proofs.put.put_texts.Given as goal

abbrev pub invariant-loop-text : goal.invariant-loop-text
invariant-loop-text l = AddsValues (map (λ t. string (string_bytes t)) (take l.text-index l.texts)) l.initial.out l.out
