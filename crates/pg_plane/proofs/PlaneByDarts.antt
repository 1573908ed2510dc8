-- The law of counterclockwise faces, put together.
use Rattle.pg_plane.specs.Law.{FacesArePlane}
use Rattle.pg_plane.proofs.Crossing.{no_crossing}
use Rattle.pg_plane.proofs.OnEdge.{no_vertex_on_edge}
use Rattle.pg_plane.proofs.Tilted.{vertices_apart, some_break, one_break}

pub plane_by_darts : FacesArePlane
plane_by_darts k twin step at base tail d r = record {
  apart = vertices_apart k twin step at base d tail r;
  off_edges = no_vertex_on_edge k twin step at base d tail r;
  no_crossing = no_crossing k twin step at base d;
  some_break = some_break k twin step at base d tail r;
  one_break = one_break k twin step at base d tail r;
}
