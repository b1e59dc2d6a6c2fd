-- What the member of `columns` alone says of a column (docs/FORMAT.md, 5.7): each value as it stands there, where it keeps its rule.
use Rattle.std.specs.Prelude.{◌&&◌, Bool, true, false, List, [], ◌∷◌, codes, Option, None, Some, is_some, if◌then◌else◌}
use Rattle.json.specs.Json.{Json}
use Rattle.json.specs.Find.{get}
use Rattle.geoparquet.specs.BoxRules.{box_in}
use Rattle.geoparquet.specs.Findings.{Finding}
use Rattle.geoparquet.specs.MemberRules.{is_epoch_value, is_orientation_value}
use Rattle.geoparquet.specs.Rules.{items_findings}
use Rattle.geoparquet.specs.TypeRules.{is_new_type, types_in}
use Rattle.geoparquet.specs.Versions.{is_judged}
use Rattle.geoparquet.specs.declared.code.GeoCode.TheVariants.{Types}
use Rattle.geoparquet.specs.declared.finding.Version.{Version}
use Rattle.geoparquet.specs.declared.member_facts.MemberFacts.{MemberFacts}

pub record SaidOf : Type 0 where
  pub bbox : Option Json
  pub epoch : Option Json
  pub geometry_types : Option Json
  pub orientation : Option Json

abbrev pub member_facts_view : MemberFacts → SaidOf
member_facts_view f = record { bbox = f.bbox; epoch = f.epoch; geometry_types = f.geometry_types; orientation = f.orientation }

-- a value, where it keeps a rule that is judged
abbrev pub where_kept : Bool → Option Json → Option Json
where_kept kept found = if kept then found else None

-- the box: as many numbers as the version takes
abbrev pub said_bbox : Version → Json → Option Json
said_bbox version member = where_kept (is_some (box_in version member)) (get (codes "bbox") member)

-- a member that may be absent, where its rule is judged and kept
abbrev pub said_by : (Option Json → Bool) → Version → Option Json → Option Json
said_by keeps version found = where_kept (is_judged version && keeps found) found

abbrev pub said_epoch : Version → Json → Option Json
said_epoch version member = said_by is_epoch_value version (get (codes "epoch") member)

abbrev pub said_orientation : Version → Json → Option Json
said_orientation version member = said_by is_orientation_value version (get (codes "orientation") member)

-- the types: at least one, and nothing is found of them
abbrev pub are_kept : List Finding → Bool
are_kept [] = true
are_kept (f ∷ fs) = false

abbrev pub are_type_names : List Json → Bool
are_type_names [] = false
are_type_names (j ∷ js) = are_kept (items_findings is_new_type Types [] [] [] (j ∷ js))

abbrev pub has_types : Version → Option (List Json) → Bool
has_types version None = false
has_types version (Some js) = is_judged version && are_type_names js

abbrev pub said_types : Version → Json → Option Json
said_types version member = where_kept (has_types version (types_in member)) (get (codes "geometry_types") member)

-- of a member, if there is one
abbrev pub member_facts : Version → Option Json → SaidOf
member_facts version None = record { bbox = None; epoch = None; geometry_types = None; orientation = None }
member_facts version (Some j) =
    record { bbox = said_bbox version j; epoch = said_epoch version j; geometry_types = said_types version j; orientation = said_orientation version j }
