use Rattle.std.proofs.Common.{◌≡◌, ◌<◌, ℕ, length}
use Rattle.map_theory.specs.Maps.{list_of}
use Rattle.graph_search.specs.Arcs.{arcs_of}
use Rattle.schnyder_grid.specs.Arcs.{AreArcs}
use Rattle.schnyder_grid.proofs.order_arcs.wood_arcs.Given as goal

abbrev pub invariant-loop-e : goal.invariant-loop-e
invariant-loop-e l = record {
  count : length l.arcs ≡ l.e;
  rows : (g : ℕ) → g < l.e → AreArcs l.wood g (list_of l.lists g) (arcs_of l.arcs g);
}
