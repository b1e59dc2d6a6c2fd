use Rattle.geoarrow_layout.proofs.Lemmas.{bytes_inferred, point_inferred}
use Rattle.geoarrow_layout.proofs.infer.infer_kind.Goals as goal

pub returns-in-Some : goal.returns-in-Some
returns-in-Some c = point_inferred _ _ _ c.in-Some.is c.infer_point.ensures.exact

pub returns-in-Ok : goal.returns-in-Ok
returns-in-Ok c = bytes_inferred _ _ _ _ c.in_default.is c.infer_point.ensures.exact c.in-Ok.is c.parse_wkb.ensures.exact
