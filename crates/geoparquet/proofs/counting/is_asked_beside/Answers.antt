use Rattle.std.proofs.Common.{◌≡◌, option_map, string_bytes, ◌∙◌}
use Rattle.json.specs.Value.{value_view}
use Rattle.crs_identity.specs.Verdicts.{claim}
use Rattle.geoparquet.specs.Counting.{crs_counting}
use Rattle.geoparquet.specs.Sources.{element_view}
use Rattle.geoparquet.proofs.Worded.{is_worded}
use Rattle.geoparquet.proofs.counting.is_asked_beside.Goals as goal

pub returns : goal.returns
returns c =
    let crs = crs_counting (option_map (λ e. element_view e.now) c.args.element) (option_map (λ v. value_view v.now) c.args.metadata) (option_map (λ v. value_view v.now) c.args.own) (option_map claim c.args.said) in
    c.is_some.ensures ∙ is_worded string_bytes c.in_ok-word.word c.args.asked crs c.in_ok-word.ensures
