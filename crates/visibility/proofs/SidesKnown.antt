-- What holds of a map, and of the tables that the pass reads, out of the facts that are kept with them: their parts are decided.
use Rattle.std.proofs.Common.{ℕ, List}
use Rattle.std.proofs.Math.Logic.{∥∥₁_elim, ∥∥₁_map}
use Rattle.std.proofs.Props.{props}
use Rattle.map_lists.specs.Lists.{Lists}
use Rattle.map_theory.proofs.Known.{HasDart-known, IsSimpleMap-known}
use Rattle.visibility.specs.Spans.{AreSides}
use Rattle.visibility.specs.Found.{IsRooted}

module _ (lists : Lists) (rank of twins numbers : List ℕ) (h : ∥ AreSides lists rank of twins numbers ∥₁) where
  pub AreSides-known : AreSides lists rank of twins numbers
  AreSides-known = record {
    simple = IsSimpleMap-known lists (∥∥₁_map h (λ s. s.simple));
    few = ∥∥₁_elim h (search props) (λ s. s.few);
    ranks = ∥∥₁_elim h (search props) (λ s. s.ranks);
    faces = ∥∥₁_elim h (search props) (λ s. s.faces);
    twin_count = ∥∥₁_elim h (search props) (λ s. s.twin_count);
    twin = λ v u d. ∥∥₁_elim h (search props) (λ s. s.twin v u d);
    within = λ i l. ∥∥₁_elim h (search props) (λ s. s.within i l);
    low = λ v i. ∥∥₁_elim h (search props) (λ s. s.low v i);
    some = λ v l. ∥∥₁_elim h (search props) (λ s. s.some v l);
  }

pub IsRooted-known : (lists : Lists) (twins : List ℕ) (t : ℕ) → ∥ IsRooted lists twins t ∥₁ → IsRooted lists twins t
IsRooted-known lists twins t h = record {
  simple = IsSimpleMap-known lists (∥∥₁_map h (λ m. m.simple));
  few = ∥∥₁_elim h (search props) (λ m. m.few);
  many = ∥∥₁_elim h (search props) (λ m. m.many);
  first = ∥∥₁_elim h (search props) (λ m. m.first);
  dart = HasDart-known lists 0 t (∥∥₁_map h (λ m. m.dart));
  are_twins = record {
    count = ∥∥₁_elim h (search props) (λ m. m.are_twins.count);
    at = λ d l. ∥∥₁_elim h (hlevel props) (λ m. m.are_twins.at d l);
  };
}
