use Rattle.std.proofs.Common.{ℕ, suc, ◌≡◌, ◌+◌, Bool, length, slice_index}
use Rattle.convex_orders.specs.Noted.{AreRims, AreNoted}
use Rattle.convex_orders.specs.Shown.{IsTrace}
use Rattle.convex_orders.proofs.contour_tracing.ContourFaces.trace.Given as goal

abbrev pub invariant-loop : goal.invariant-loop
invariant-loop l = record {
  size : AreRims l.self (length l.map.tables.now.lists);
  all : (alive : ℕ → Bool) (w : ℕ → ℕ) (r a b : ℕ) → IsTrace l.map.tables.now.lists l.map.tables.now.faces.own l.map.marks.now l.initial.left.items l.stop alive w r a b → IsTrace l.map.tables.now.lists l.map.tables.now.faces.own l.map.marks.now l.left.items l.stop alive w r (a + l.counter) b;
  noted : (alive : ℕ → Bool) (w : ℕ → ℕ) (r a b : ℕ) → IsTrace l.map.tables.now.lists l.map.tables.now.faces.own l.map.marks.now l.initial.left.items l.stop alive w r a b → AreNoted l.map.tables.now.lists l.map.tables.now.faces.own w a (a + l.counter) l.initial.self l.self;
  last : (k : ℕ) → suc k ≡ length l.left.items → slice_index l.left.items k ≡ l.x;
}
