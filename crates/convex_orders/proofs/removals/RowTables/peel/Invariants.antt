use Rattle.std.proofs.Common.{ℕ, suc, ◌≡◌, ◌+◌}
use Rattle.map_theory.specs.Maps.{dart_count}
use Rattle.convex_orders.specs.Tables.{IsKept, StandsBy}
use Rattle.convex_orders.proofs.removals.RowTables.peel.Given as goal

abbrev pub invariant-loop : goal.invariant-loop
invariant-loop l = record {
  kept : IsKept l.tables l.self;
  stands : (bound : ℕ) → bound + l.counter ≡ suc (dart_count l.tables.lists) → StandsBy l.tables l.self bound;
}
