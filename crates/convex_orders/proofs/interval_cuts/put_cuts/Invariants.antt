use Rattle.std.proofs.Common.{ℕ, suc, ◌≡◌}
use Rattle.convex_orders.specs.Contours.{number_at}
use Rattle.convex_orders.specs.Cuts.{AreCutPlaces}
use Rattle.convex_orders.proofs.CutLemmas.{IsCutTo}
use Rattle.convex_orders.proofs.interval_cuts.put_cuts.Given as goal

abbrev pub invariant-loop-p : goal.invariant-loop-p
invariant-loop-p l = record {
  number : (q : ℕ) → suc q ≡ l.p → l.number ≡ number_at l.outer l.stretch.ws.now q;
  cuts : (faces : ℕ) (cut : ℕ → ℕ) → AreCutPlaces (number_at l.outer l.stretch.ws.now) l.stretch.first l.stretch.last faces cut → IsCutTo l.row.items l.stretch.first l.p faces cut;
}
