-- What holds of the tables and of a contour, out of the facts that are kept with them: their parts are decided.
use Rattle.std.proofs.Common.{ℕ, List}
use Rattle.std.proofs.Math.Logic.{∥∥₁_elim, ∥∥₁_map}
use Rattle.std.proofs.Props.{props}
use Rattle.map_lists.specs.Lists.{Lists}
use Rattle.map_theory.specs.Maps.{IsSimpleMap}
use Rattle.map_theory.proofs.Known.{HasDart-known, IsSimpleMap-known}
use Rattle.convex_orders.specs.Contours.{AreInner}
use Rattle.convex_orders.specs.Shown.{IsBased}
use Rattle.convex_orders.specs.declared.map_tables.Tables.{Tables}

pub AreInner-known : (lists own : Lists) (ws table : List ℕ) → ∥ AreInner lists own ws table ∥₁ → AreInner lists own ws table
AreInner-known lists own ws table h = record {
  long = ∥∥₁_elim h (search props) (λ a. a.long);
  vertices = λ i l. ∥∥₁_elim h (search props) (λ a. a.vertices i l);
  edges = λ i l. HasDart-known lists _ _ (∥∥₁_map h (λ a. a.edges i l));
  numbers = λ i l. ∥∥₁_elim h (search props) (λ a. a.numbers i l);
}

module _ (t : Tables) where
  simple : IsSimpleMap t.lists
  simple = IsSimpleMap-known t.lists (∥∥₁_map t.based (λ b. b.three.simple))

  pub based : IsBased t.lists t.tail t.head
  based = record {
    plane = ∥∥₁_elim t.based (search props) (λ b. b.plane);
    three = record {
      simple = simple;
      some = ∥∥₁_elim t.based (search props) (λ b. b.three.some);
      connected = ∥∥₁_elim t.based (search props) (λ b. b.three.connected);
      uncut = λ v cut. ∥∥₁_elim t.based (λ x y. absurd x) (λ b. b.three.uncut v cut);
      unpaired = λ u v pair. ∥∥₁_elim t.based (λ x y. absurd x) (λ b. b.three.unpaired u v pair);
    };
    base = HasDart-known t.lists t.tail t.head (∥∥₁_map t.based (λ b. b.base));
  }
