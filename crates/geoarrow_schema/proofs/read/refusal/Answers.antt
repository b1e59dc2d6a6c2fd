use Rattle.std.proofs.Common.{rules}
use Rattle.geoarrow_schema.proofs.Reading.{structured_refused}
use Rattle.geoarrow_schema.proofs.read.refusal.Goals as goal

pub returns-in-Ok : goal.returns-in-Ok
returns-in-Ok c = structured_refused c.names_are_distinct.ensures c.args.field.now c.args.name _ c.in_default.not-Wkb c.in_default.not-Wkt c.requires.named c.requires.no_kind (search rules)

pub returns : goal.returns
returns c = structured_refused c.names_are_distinct.ensures c.args.field.now c.args.name _ c.in_default.not-Wkb c.in_default.not-Wkt c.requires.named c.requires.no_kind (search rules)
