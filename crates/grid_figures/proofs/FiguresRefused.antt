-- Figures that no canonical order gives: plane, in the grid, with the rotations kept and the corners in place, but not by the method.
use Rattle.std.proofs.Common.{◌≡◌, ◌≢◌, ◌∙◌, ℕ, zero, suc, ◌-◌, ◌<◌, ◌≤◌, List, [], ◌∷◌, length, refl, ap, ap₂, subst, pos, ℤ, arith}
use Rattle.std.proofs.lemmas.Bool.Decides.{nat_tests}
use Rattle.std.proofs.lemmas.Int.{ints}
use Rattle.std.specs.Prelude.{slice_index}
use Rattle.map_lists.specs.Lists.{Lists}
use Rattle.pg_plane.specs.declared.grid_points.Point.{Point}
use Rattle.plane_drawings.specs.Drawing.{place}
use Rattle.contour_runs.specs.Runs.{Step, Stage, stage_after, IsRun, vertex_after, place_after}
use Rattle.contour_runs.specs.Wood.{wood_points, one_after, two_after, one_gain, two_gain, drawn_one, drawn_two}
use Rattle.contour_runs.specs.Wood.{point_of as wood_point}
use Rattle.order_drawings.specs.SchnyderDrawings.{AreWoodPoints}
use Rattle.fpp_shift.specs.Shift.{Places, shift_points, point_of, x_after, y_after, shift}
use Rattle.fpp_shift.specs.ShiftDrawings.{AreShiftPoints}
use Rattle.grid_figures.specs.Forms.{point_at, IsByMethod}
use Rattle.grid_figures.specs.ShiftFiguresFigures.{shift_form, IsShiftFigure}
use Rattle.grid_figures.specs.SchnyderFiguresFigures.{schnyder_form, IsSchnyderFigure}

-- two steps, of which the second covers all but the base: the third vertex comes between, and goes under the fourth
module _ (steps : ℕ → Step) (run : IsRun steps 2) (end : (stage_after steps 2).width ≡ 3) where
  first_of_three : (steps 0).first ≡ 0
  first_of_three = let h = run 0 (omega arith) in let a = h.order in let b = h.within in omega arith

  last_of_three : (steps 0).last ≡ 1
  last_of_three = let h = run 0 (omega arith) in let a = h.order in let b = h.within in omega arith

  first_of_four : (steps 1).first ≡ 0
  first_of_four = let h = run 1 (omega arith) in let a = h.order in let b = h.within in let e = first_of_three in let f = last_of_three in omega (arith, end)

  last_of_four : (steps 1).last ≡ 2
  last_of_four = let h = run 1 (omega arith) in let a = h.order in let b = h.within in let e = first_of_three in let f = last_of_three in let g = first_of_four in omega (arith, end)

  shifted_x : (shift_points steps 2).x 2 ≡ 2
  unfolding x_after y_after shift place_after vertex_after
  shifted_x = let a = first_of_three in let b = last_of_three in let c = first_of_four in let d = last_of_four in grind (arith, nat_tests)

  shifted_y : (shift_points steps 2).y 2 ≡ 1
  unfolding x_after y_after shift place_after vertex_after
  shifted_y = let a = first_of_three in let b = last_of_three in let c = first_of_four in let d = last_of_four in grind (arith, nat_tests)

  wood_x : (wood_points steps 2).one 2 ≡ 1
  unfolding one_after two_after one_gain two_gain drawn_one drawn_two place_after vertex_after
  wood_x = let a = first_of_three in let b = last_of_three in let c = first_of_four in let d = last_of_four in grind (arith, nat_tests)

  wood_y : (wood_points steps 2).two 2 ≡ 1
  unfolding one_after two_after one_gain two_gain drawn_one drawn_two place_after vertex_after
  wood_y = let a = first_of_three in let b = last_of_three in let c = first_of_four in let d = last_of_four in grind (arith, nat_tests)

-- so of four vertices one stands between the corners: at (2, 1) by the shift method, and at (1, 1) by Schnyder's coordinates
between_shifted : (lists : Lists) (points : List Point) → length lists ≡ 4 → IsByMethod shift_form lists points → (v : ℕ) × (v < 4) × (place points v ≡ point_at 2 1)
between_shifted lists points four m =
    let b : AreShiftPoints m.more (0, m.to) m.at m.order.cycle points = m.by_order in
    let n : length m.at ≡ 4 = m.order.count ∙ (m.completion.extended.vertices ∙ four) in
    let run = subst (λ k. IsRun b.steps (k - 2)) n b.order.run in
    let end = subst (λ k. (stage_after b.steps (k - 2)).width ≡ 3) n b.order.end in
    let within = m.order.vertices 2 0 (omega (arith, n)) in (
      slice_index m.at 2,
      omega (arith, within, n, m.order.count),
      b.placed 2 (omega (arith, n)) ∙ (ap (λ k. point_of (shift_points b.steps (k - 2)) 2) n ∙ ap₂ (λ x y. point_at x y) (shifted_x b.steps run end) (shifted_y b.steps run end)),
    )

between_by_wood : (lists : Lists) (points : List Point) → length lists ≡ 4 → IsByMethod schnyder_form lists points → (v : ℕ) × (v < 4) × (place points v ≡ point_at 1 1)
between_by_wood lists points four m =
    let b : AreWoodPoints m.more (0, m.to) m.at m.order.cycle points = m.by_order in
    let n : length m.at ≡ 4 = m.order.count ∙ (m.completion.extended.vertices ∙ four) in
    let run = subst (λ k. IsRun b.steps (k - 2)) n b.order.run in
    let end = subst (λ k. (stage_after b.steps (k - 2)).width ≡ 3) n b.order.end in
    let within = m.order.vertices 2 0 (omega (arith, n)) in (
      slice_index m.at 2,
      omega (arith, within, n, m.order.count),
      b.placed 2 (omega (arith, n)) ∙ (ap (λ k. wood_point (wood_points b.steps (k - 2)) 2) n ∙ ap₂ (λ x y. point_at x y) (wood_x b.steps run end) (wood_y b.steps run end)),
    )

-- none of four vertices stands at a point
abbrev stand_off : Point → Point → Point → Point → Point → Type 0
stand_off p a b c d = (a ≢ p) × (b ≢ p) × (c ≢ p) × (d ≢ p)

none_stands : (p a b c d : Point) → stand_off p a b c d → (v : ℕ) → v < 4 → place (a ∷ b ∷ c ∷ d ∷ []) v ≡ p → ⊥
none_stands p a b c d off zero l e = off.0 e
none_stands p a b c d off (suc zero) l e = off.1 e
none_stands p a b c d off (suc (suc zero)) l e = off.2 e
none_stands p a b c d off (suc (suc (suc zero))) l e = off.3 e
none_stands p a b c d off (suc (suc (suc (suc v)))) l e = omega arith

-- a cycle of four vertices, with the face of vertex 0's first dart outside
abbrev ring : Lists
ring = (1 ∷ 3 ∷ []) ∷ (2 ∷ 0 ∷ []) ∷ (3 ∷ 1 ∷ []) ∷ (0 ∷ 2 ∷ []) ∷ []

-- the fourth vertex stands elsewhere on the outer side
shifted_by_no_order : (width height : ℤ) → ¬ IsShiftFigure ring (record { points = point_at 4 0 ∷ point_at 0 0 ∷ point_at 2 2 ∷ point_at 3 1 ∷ []; width = width; height = height })
shifted_by_no_order width height f =
    let p = point_at 2 1 in
    let off : (i j : ℕ) → i ≢ 2 → point_at i j ≢ p = λ i j ne e. let x : pos i ≡ pos 2 = ap (λ (q : Point). q.x) e in ne (omega (arith, ints)) in
    let high : (i j : ℕ) → j ≢ 1 → point_at i j ≢ p = λ i j ne e. let y : pos j ≡ pos 1 = ap (λ (q : Point). q.y) e in ne (omega (arith, ints)) in
    let w = between_shifted ring (point_at 4 0 ∷ point_at 0 0 ∷ point_at 2 2 ∷ point_at 3 1 ∷ []) refl f.method in
    none_stands p (point_at 4 0) (point_at 0 0) (point_at 2 2) (point_at 3 1) (off 4 0 (omega arith), off 0 0 (omega arith), high 2 2 (omega arith), off 3 1 (omega arith)) w.0 w.1 w.2

by_wood_of_no_order : (width height : ℤ) → ¬ IsSchnyderFigure ring (record { points = point_at 0 2 ∷ point_at 2 1 ∷ point_at 1 0 ∷ point_at 0 1 ∷ []; width = width; height = height })
by_wood_of_no_order width height f =
    let p = point_at 1 1 in
    let off : (i j : ℕ) → i ≢ 1 → point_at i j ≢ p = λ i j ne e. let x : pos i ≡ pos 1 = ap (λ (q : Point). q.x) e in ne (omega (arith, ints)) in
    let high : (i j : ℕ) → j ≢ 1 → point_at i j ≢ p = λ i j ne e. let y : pos j ≡ pos 1 = ap (λ (q : Point). q.y) e in ne (omega (arith, ints)) in
    let w = between_by_wood ring (point_at 0 2 ∷ point_at 2 1 ∷ point_at 1 0 ∷ point_at 0 1 ∷ []) refl f.method in
    none_stands p (point_at 0 2) (point_at 2 1) (point_at 1 0) (point_at 0 1) (off 0 2 (omega arith), off 2 1 (omega arith), high 1 0 (omega arith), off 0 1 (omega arith)) w.0 w.1 w.2

-- the contour moves, and what hangs under it stays
hanging_vertex_stays : (g : Stage) (s : Step) (at : Places) (v : ℕ) → v < g.count → s.first < s.last → s.last ≤ g.place v → x_after g s at v ≡ at.x v → ⊥
unfolding x_after shift
hanging_vertex_stays g s at v placed order behind stays = grind (arith, nat_tests)
