-- What holds of a triangulation, out of the fact that is kept with it: its parts are decided.
use Rattle.std.proofs.Math.Logic.{∥∥₁_elim, ∥∥₁_map}
use Rattle.std.proofs.Props.{props}
use Rattle.map_lists.specs.Lists.{Lists}
use Rattle.map_theory.proofs.Known.{IsSimpleMap-known}
use Rattle.plane_laws.specs.Triangulations.{IsTriangulation}

pub IsTriangulation-known : (lists : Lists) → ∥ IsTriangulation lists ∥₁ → IsTriangulation lists
IsTriangulation-known lists h = record {
  simple = IsSimpleMap-known lists (∥∥₁_map h (λ b. b.simple));
  plane = ∥∥₁_elim h (search props) (λ b. b.plane);
  some = ∥∥₁_elim h (search props) (λ b. b.some);
  edges = ∥∥₁_elim h (search props) (λ b. b.edges);
}
