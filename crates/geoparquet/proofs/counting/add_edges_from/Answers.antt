use Rattle.geoparquet.proofs.counting.add_edges_from.Goals as goal

pub returns-in-Geo : goal.returns-in-Geo
returns-in-Geo c = rw c.in-Geo.is c.add_member_edges.ensures
