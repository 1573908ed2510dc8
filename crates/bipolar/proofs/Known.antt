-- The darts of a map, out of the fact that is kept with them: its parts are decided.
use Rattle.std.proofs.Common.{ℕ, List, length}
use Rattle.std.proofs.Math.Logic.{∥∥₁_elim, ∥∥₁_map}
use Rattle.std.proofs.Props.{props}
use Rattle.map_theory.proofs.Known.{AreCuts-known, IsSimpleMap-known}
use Rattle.bipolar.specs.FaceNumbers.{AreDarts}

pub AreDarts-known : (entries ends twins : List ℕ) → ∥ AreDarts entries ends twins ∥₁ → AreDarts entries ends twins
AreDarts-known entries ends twins h = record {
  cuts = AreCuts-known 0 ends (length entries) (∥∥₁_map h (λ a. a.cuts));
  few = ∥∥₁_elim h (search props) (λ a. a.few);
  simple = IsSimpleMap-known _ (∥∥₁_map h (λ a. a.simple));
  are_twins = record {
    count = ∥∥₁_elim h (search props) (λ a. a.are_twins.count);
    at = λ d l. ∥∥₁_elim h (hlevel props) (λ a. a.are_twins.at d l);
  };
}
