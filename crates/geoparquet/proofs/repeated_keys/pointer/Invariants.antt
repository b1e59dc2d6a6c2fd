use Rattle.std.proofs.Common.{◌≡◌, flat_map, map, string_bytes, take}
use Rattle.geoparquet.specs.RepeatedKeys.{step_text, step_view}
use Rattle.geoparquet.proofs.repeated_keys.pointer.Given as goal

abbrev pub invariant-loop-step : goal.invariant-loop-step
invariant-loop-step l = string_bytes l.text ≡ flat_map step_text (map step_view (take l.step-index l.steps))
