-- The counts of the tetrahedron and the cube.
use Rattle.std.specs.Prelude.{zero, suc, ℕ, ◌≡◌, List, [], ◌∷◌, map, ◌<◌, refl}
use Rattle.std.specs.List.{range_with_len}
use Rattle.std.proofs.Common.{◌⊎◌, inl, inr, sym, ap, subst, ◌∙◌, arith}
use Rattle.contour_runs.specs.FaceRuns.{Step, vertex_after, place_after, moved, stage_after, IsTouched, IsUnder}
use Rattle.contour_runs.proofs.FaceRunsCases.{row, fan, tetrahedron, cube, cube_run}
use Rattle.convex_counts.specs.Counts.{turned, one_after, two_after, face_counts}
use Rattle.convex_counts.specs.Turns.{goes_left, turn_from, well_turned, IsTouchedRun}
use Rattle.convex_counts.specs.FacePointsLaws.{IsWholeRun}
use Rattle.convex_counts.proofs.Whole.{touched_turns}

-- x of the vertices, then y
abbrev xs : (ℕ → Step) → ℕ → ℕ → List ℕ
xs steps n many = map (face_counts steps n).one (range_with_len 0 many)

abbrev ys : (ℕ → Step) → ℕ → ℕ → List ℕ
ys steps n many = map (face_counts steps n).two (range_with_len 0 many)

-- the tetrahedron, with its third vertex in the middle
tetrahedron_x : xs tetrahedron 2 4 ≡ 3 ∷ 0 ∷ 1 ∷ 0 ∷ []
unfolding turned one_after two_after vertex_after place_after moved
tetrahedron_x = refl

tetrahedron_y : ys tetrahedron 2 4 ≡ 0 ∷ 3 ∷ 1 ∷ 0 ∷ []
unfolding turned one_after two_after vertex_after place_after moved
tetrahedron_y = refl

-- the cube, whose outer face has the first, the second, the last and the seventh vertex
cube_x : xs cube 4 8 ≡ 5 ∷ 0 ∷ 3 ∷ 1 ∷ 2 ∷ 1 ∷ 2 ∷ 0 ∷ []
unfolding turned one_after two_after vertex_after place_after moved
cube_x = refl

cube_y : ys cube 4 8 ≡ 0 ∷ 5 ∷ 1 ∷ 3 ∷ 1 ∷ 2 ∷ 0 ∷ 0 ∷ []
unfolding turned one_after two_after vertex_after place_after moved
cube_y = refl

-- its turns, read off: those of the second step, and of the last one
cube_second : (well_turned cube 1).turn 0 ≡ 1
unfolding turned one_after two_after vertex_after place_after moved goes_left turn_from
cube_second = refl

cube_last : map (well_turned cube 3).turn (0 ∷ 1 ∷ []) ≡ 2 ∷ 4 ∷ []
unfolding turned one_after two_after vertex_after place_after moved goes_left turn_from
cube_last = refl

-- before its last step two new vertices are still at one point
cube_together : xs cube 3 7 ≡ 3 ∷ 0 ∷ 1 ∷ 0 ∷ 0 ∷ 0 ∷ 0 ∷ []
unfolding turned one_after two_after vertex_after place_after moved
cube_together = refl

-- each vertex of the cube is touched in time, so it is a whole run with its turns read off
touched_second : IsTouched cube 2 2
unfolding vertex_after
touched_second = record { step = 1; earlier = omega arith; end = inl refl }

touched_third : IsTouched cube 3 3
unfolding vertex_after
touched_third = record { step = 1; earlier = omega arith; end = inr refl }

touched_fourth : IsTouched cube 3 4
unfolding vertex_after
touched_fourth = record { step = 2; earlier = omega arith; end = inr refl }

touched_sixth : IsTouched cube 4 6
unfolding vertex_after
touched_sixth = record { step = 3; earlier = omega arith; end = inl refl }

-- what is strictly under a face of a row, and of a single vertex with two faces
row_under : (first last vertices turn i p : ℕ) → i < 1 → (row first last vertices turn).cut i < p → p < (row first last vertices turn).cut (suc i) → (first < p) × (p < last)
row_under first last vertices turn zero p l a b = (a, b)
row_under first last vertices turn (suc i) p l a b = absurd (omega arith)

fan_under : (first middle last turn later i p : ℕ) → i < 2 → (fan first middle last turn later).cut i < p → p < (fan first middle last turn later).cut (suc i) → ((first < p) × (p < middle)) ⊎ ((middle < p) × (p < last))
fan_under first middle last turn later zero p l a b = inl (a, b)
fan_under first middle last turn later (suc zero) p l a b = inr (a, b)
fan_under first middle last turn later (suc (suc i)) p l a b = absurd (omega arith)

named : (k p q v : ℕ) → p ≡ q → (stage_after cube k).vertex p ≡ v → IsTouched cube k ((stage_after cube k).vertex q) → IsTouched cube k v
named k p q v e f t = subst (IsTouched cube k) (ap (stage_after cube k).vertex (sym e) ∙ f) t

cube_under : (k v : ℕ) → k < 4 → IsUnder cube k v → IsTouched cube k v
unfolding vertex_after
cube_under zero v l u = let b = row_under 0 1 2 0 u.face u.place u.within u.low u.high in absurd (omega (arith, b.0, b.1))
cube_under (suc zero) v l u = let b = row_under 1 2 2 1 u.face u.place u.within u.low u.high in absurd (omega (arith, b.0, b.1))
cube_under (suc (suc zero)) v l u = let b = row_under 0 2 1 0 u.face u.place u.within u.low u.high in named 2 u.place 1 v (omega (arith, b.0, b.1)) u.vertex touched_second
cube_under (suc (suc (suc zero))) v l u = elim (fan_under 1 3 5 2 4 u.face u.place u.within u.low u.high) [
  | inl b ↦ named 3 u.place 2 v (omega (arith, b.0, b.1)) u.vertex touched_fourth
  | inr b ↦ named 3 u.place 4 v (omega (arith, b.0, b.1)) u.vertex touched_third
]
cube_under (suc (suc (suc (suc k)))) v l u = absurd (omega arith)

cube_end : (j : ℕ) → 0 < j → suc j < 4 → suc ((stage_after cube 4).vertex j) < 8 → IsTouched cube 4 ((stage_after cube 4).vertex j)
unfolding vertex_after
cube_end x0 a b c = grind (arith, touched_sixth)

cube_touched : IsTouchedRun cube 4
cube_touched = record { run = cube_run; some = omega arith; under = cube_under; end = cube_end }

cube_whole : IsWholeRun (well_turned cube) 4
cube_whole = touched_turns cube 4 cube_touched
