-- Steps of the sweep that wrong bodies would let through.
use Rattle.std.proofs.Common.{◌≡◌, ◌<◌, ◌≤◌, ◌-◌, ℕ, zero, suc, List, [], ◌∷◌, ◌++◌, length, take, drop, pos, ◌<ℤ◌, refl, ap, inl, inr, ⊎_elim, arith}
use Rattle.std.specs.Prelude.{slice_index_or}
use Rattle.std.proofs.lemmas.Int.{ints}
use Rattle.pg_plane.specs.declared.grid_points.Point.{Point}
use Rattle.plane_drawings.specs.Drawing.{IsPlaneDrawing}
use Rattle.plane_drawings.specs.declared.plane_sweep.line.Line.{Line}
use Rattle.plane_drawings.specs.PlaneSweepLines.{rise}
use Rattle.plane_drawings.specs.SweepCheckLines.{firm_lists}
use Rattle.plane_drawings.specs.Tests.{IsPassed}

abbrev point : ℕ → ℕ → Point
point x y = record { x = pos x; y = pos y }

abbrev points : List Point → ℕ → Point
points ps k = slice_index_or ps k (point 0 0)

abbrev line : ℕ → ℕ → Line
line low high = record { low = low; high = high }

-- the end of a line is not looked at, above which a new one begins that crosses it
ends_untested_below_new_lines : IsPassed (points (point 0 0 ∷ point 1 2 ∷ point 2 2 ∷ point 3 0 ∷ [])) 1 (line 1 3 ∷ []) (line 0 2 ∷ []) (line 0 2 ∷ line 1 3 ∷ []) → ⊥
ends_untested_below_new_lines p = ⊎_elim (λ l. omega (arith, l.0)) (λ r. omega (arith, ints, r.1)) (p.ends 0 (line 0 2) (omega arith) (omega arith) (omega arith))

abbrev places : ℕ → Point
places = points (point 0 0 ∷ point 1 0 ∷ point 2 0 ∷ [])

-- a vertex on a line is called below it, or above it
vertex_below_untested : IsPassed places 1 [] (line 0 2 ∷ []) (line 0 2 ∷ []) → ⊥
vertex_below_untested p = none p.begin p.end p.order p.within (p.above (line 0 2)) (p.below (line 0 2)) p.after
  where
    none : (begin end : ℕ) → begin ≤ end → end ≤ 1 → (0 < begin → pos 0 <ℤ rise places (slice_index_or (line 0 2 ∷ []) (begin - 1) (line 0 2)) 1) → (end < 1 → rise places (slice_index_or (line 0 2 ∷ []) end (line 0 2)) 1 <ℤ pos 0) → line 0 2 ∷ [] ≡ take begin (line 0 2 ∷ []) ++ drop end (line 0 2 ∷ []) → ⊥
    none zero zero o w above below after = omega (arith, ints, below (omega arith))
    none zero (suc zero) o w above below after = omega (arith, ap length after)
    none zero (suc (suc end)) o w above below after = omega (arith, w)
    none (suc zero) end o w above below after = omega (arith, ints, above (omega arith))
    none (suc (suc begin)) end o w above below after = omega (arith, o, w)

-- an edge left out, which crosses the other one
edge_left_out : IsPlaneDrawing ((1 ∷ []) ∷ (0 ∷ []) ∷ (3 ∷ []) ∷ (2 ∷ []) ∷ []) (point 0 0 ∷ point 2 2 ∷ point 0 2 ∷ point 2 0 ∷ []) → ⊥
edge_left_out d =
    d.no_crossing 0 1 2 3 (omega arith, (0, omega arith, refl)) (omega arith, (0, omega arith, refl)) (λ e. omega (arith, e)) (λ e. omega (arith, e)) (λ e. omega (arith, e)) (λ e. omega (arith, e)) (record {
      ends_of_second = inr (omega (arith, ints), omega (arith, ints));
      ends_of_first = inl (omega (arith, ints), omega (arith, ints));
    })

-- no vertex is called loose, where two edges cross
crossing_called_plane : IsPlaneDrawing (firm_lists [] ((1 ∷ []) ∷ (0 ∷ []) ∷ (3 ∷ []) ∷ (2 ∷ []) ∷ [])) (point 0 0 ∷ point 2 2 ∷ point 0 2 ∷ point 2 0 ∷ []) → ⊥
crossing_called_plane d = edge_left_out d
