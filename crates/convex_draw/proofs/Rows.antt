-- A row over which a step comes.
use Rattle.std.proofs.Common.{◌≡◌, ◌≢◌, ℕ, suc, ◌+◌, ◌-◌, ◌<◌, ◌≤◌, List, length, get_or, sym, ap, ◌∙◌, arith}
use Rattle.contour_runs.specs.Runs.{Stage}
use Rattle.contour_runs.specs.Wood.{Coordinates}
use Rattle.contour_runs.specs.FaceRuns.{Step}
use Rattle.contour_runs.proofs.FaceRunsPlaces.{order}
use Rattle.convex_draw.specs.declared.convex_points.spots.Spot.{Spot}
use Rattle.convex_draw.specs.Spots.{Setting, IsRowOver, spot_of}

module _ (w : Setting) (spots : List Spot) (row : List ℕ) (h : IsRowOver w spots row) where
  abbrev g : Stage
  g = w.stage

  abbrev s : Step
  s = w.step

  abbrev at : Coordinates
  at = w.at

  pub first_last : s.first < s.last
  first_last = order g s h.step

  pub long : length row + s.first ≡ suc s.last
  long = h.row_is.long

  pub older : (i : ℕ) → i ≤ s.last → g.vertex i < g.count
  older i l = let b = h.step.within in h.stage.placed i (omega arith)

  pub entry : (j : ℕ) → j < length row → get_or row j 0 ≡ w.name (g.vertex (s.first + j))
  entry j l = h.row_is.each j l

  pub name_within : (i : ℕ) → i ≤ s.last → w.name (g.vertex i) < length spots
  name_within i l = let o = older i l in let r = h.room in h.named.below (g.vertex i) (omega arith)

  pub entry_within : (j : ℕ) → j < length row → get_or row j 0 < length spots
  entry_within j l = let n = long in let m = name_within (s.first + j) (omega arith) in omega (arith, entry j l)

  -- places of the row have names of their own, and so have the new vertices
  pub same_place : (i j : ℕ) → i ≤ s.last → j ≤ s.last → w.name (g.vertex i) ≡ w.name (g.vertex j) → i ≡ j
  same_place i j l m e =
      let b = h.step.within in
      let o = older i l in
      let o' = older j m in
      let r = h.room in
      let v = h.named.one (g.vertex i) (g.vertex j) (omega arith) (omega arith) e in
      sym (h.stage.own i (omega arith)) ∙ ap g.place v ∙ h.stage.own j (omega arith)

  pub not_new : (i r : ℕ) → i ≤ s.last → r < s.vertices → w.name (g.vertex i) ≢ w.name (g.count + r)
  not_new i r l m e =
      let o = older i l in
      let k = h.room in
      let v = h.named.one (g.vertex i) (g.count + r) (omega arith) (omega arith) e in
      absurd (omega arith)

  -- no coordinate of the row is above the faces made
  pub one_most : (i : ℕ) → i ≤ s.last → at.one (g.vertex i) ≤ h.made
  one_most i l = let f = h.falling.sums (g.vertex i) (older i l) in omega arith

  pub two_most : (i : ℕ) → i ≤ s.last → at.two (g.vertex i) ≤ h.made
  two_most i l = let f = h.falling.sums (g.vertex i) (older i l) in omega arith

  pub one_last : (i : ℕ) → i ≤ s.last → at.one (g.vertex s.last) ≤ at.one (g.vertex i)
  one_last i l = h.falling.falls i s.last l h.step.within

  pub two_first : (i : ℕ) → s.first ≤ i → i ≤ s.last → at.two (g.vertex s.first) ≤ at.two (g.vertex i)
  two_first i l m = let b = h.step.within in h.falling.rises s.first i l (omega arith)

  -- the differences along it, told by the entries
  pub fall_to : (j i : ℕ) → suc i ≡ s.first + j → i < s.last → at.one (g.vertex i) ≡ at.one (g.vertex (suc i)) + (spot_of spots (get_or row j 0)).one
  fall_to j i e l =
      let b = h.step.within in
      let n = long in
      let f = h.gaps.fall i (omega arith) in
      let v : get_or row j 0 ≡ w.name (g.vertex (suc i)) = entry j (omega arith) ∙ ap (λ i. w.name (g.vertex i)) (sym e) in
      omega (arith, f, ap (λ u. (spot_of spots u).one) v)

  pub rise_to : (j i : ℕ) → suc i ≡ s.first + j → i < s.last → at.two (g.vertex (suc i)) ≡ at.two (g.vertex i) + (spot_of spots (get_or row j 0)).two
  rise_to j i e l =
      let b = h.step.within in
      let n = long in
      let f = h.gaps.rise i (omega arith) in
      let v : get_or row j 0 ≡ w.name (g.vertex (suc i)) = entry j (omega arith) ∙ ap (λ i. w.name (g.vertex i)) (sym e) in
      omega (arith, f, ap (λ u. (spot_of spots u).two) v)

  -- the sum of falls up to the next vertex
  pub fall_more : (fall j i : ℕ) → suc i ≡ s.first + j → i < s.last → fall + at.one (g.vertex i) ≡ at.one (g.vertex s.first) → fall + (spot_of spots (get_or row j 0)).one + at.one (g.vertex (suc i)) ≡ at.one (g.vertex s.first)
  fall_more fall j i e l f = omega (arith, fall_to j i e l, f)

  pub fall_small : (fall i : ℕ) → fall + at.one (g.vertex i) ≡ at.one (g.vertex s.first) → fall < 1048576
  fall_small fall i f = let o = first_last in let m = one_most s.first (omega arith) in let k = h.few in omega arith

  pub row_some : 1 < length row
  row_some = let o = first_last in let n = long in omega arith

  pub row_first : get_or row 0 0 ≡ w.name (g.vertex s.first)
  row_first = let o = row_some in let e : s.first + 0 ≡ s.first = omega arith in entry 0 (omega arith) ∙ ap (λ i. w.name (g.vertex i)) e

  pub row_last : get_or row (length row - 1) 0 ≡ w.name (g.vertex s.last)
  row_last = let o = row_some in let n = long in let e : s.first + (length row - 1) ≡ s.last = omega arith in entry (length row - 1) (omega arith) ∙ ap (λ i. w.name (g.vertex i)) e
