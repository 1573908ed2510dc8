-- What is tested at a vertex of the sweep.
use Rattle.std.specs.Prelude.{ℕ, ◌+◌, ◌-◌, ◌<◌, ◌≤◌, ◌≡◌, List, ◌++◌, length, take, drop, slice_index_or, pos, ◌<ℤ◌}
use Rattle.pg_plane.specs.declared.grid_points.Point.{Point}
use Rattle.plane_drawings.specs.declared.plane_sweep.line.Line.{Line}
use Rattle.plane_drawings.specs.PlaneSweepLines.{rise, Ends}

-- the lines before the gap of a status, and those behind it
abbrev pub around : ℕ → ℕ → List Line → List Line
around begin end status = take begin status ++ drop end status

-- The status `old` becomes `new` at i, where the lines `fresh` begin: of its lines those from `begin` on before `end` end there, i is strictly between their neighbours, and neighbours round the new lines end in their order.
pub record IsPassed (at : ℕ → Point) (i : ℕ) (fresh old new : List Line) : Type 0 where
  pub begin : ℕ
  pub end : ℕ
  pub order : begin ≤ end
  pub within : end ≤ length old
  pub gone : (k : ℕ) (d : Line) → begin ≤ k → k < end → (slice_index_or old k d).high ≡ i
  pub above : (d : Line) → 0 < begin → pos 0 <ℤ rise at (slice_index_or old (begin - 1) d) i
  pub below : (d : Line) → end < length old → rise at (slice_index_or old end d) i <ℤ pos 0
  pub after : new ≡ take begin old ++ (fresh ++ drop end old)
  pub ends : (k : ℕ) (d : Line) → begin ≤ k + 1 → k < begin + length fresh → k + 1 < length new → Ends at (slice_index_or new k d) (slice_index_or new (k + 1) d)
