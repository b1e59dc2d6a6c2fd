use Rattle.std.proofs.Common.{◌≡◌, [], rules}
use Rattle.json.specs.Value.{value_view}
use Rattle.geoparquet.specs.RepeatedKeys.{repeated_in}
use Rattle.geoparquet.proofs.Telling.{told_at_end}
use Rattle.geoparquet.proofs.repeated_keys.add_repeated_keys.Goals as goal

pub returns : goal.returns
returns c =
    let none : c.new-found.result.items ≡ [] = search rules in
    told_at_end c.args.findings.now.items c.new-found.result.items c.add_in.new.findings.items c.truncate.new.self.items c.append.new.self.items (repeated_in [] (value_view c.args.value.now))
    none c.in_ok-add_in.ensures c.truncate.ensures.items c.in_ok-append.ensures.items
