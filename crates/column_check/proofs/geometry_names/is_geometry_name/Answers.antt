use Rattle.std.proofs.Common.{rules, ◌≡◌, ap, ◌∙◌}
use Rattle.std.specs.List.{list_any}
use Rattle.std.specs.Str.{str_to_ascii_lowercase}
use Rattle.column_check.specs.GeometryNames.{geometry_names, is_alone_or_behind}
use Rattle.column_check.proofs.geometry_names.is_geometry_name.Goals as goal

pub returns : goal.returns
returns c =
    let small : c.as_str.result.now ≡ str_to_ascii_lowercase c.args.text.now = search rules in
    c.is_some_of.ensures ∙ ap (λ s. list_any (is_alone_or_behind s) geometry_names) small
