-- A canonical order has a wood, whose regions give the coordinates of the drawing by the order.
use Rattle.std.proofs.Common.{◌≡◌, ◌⊎◌, ◌<◌, ◌≤◌, ◌+◌, ◌-◌, ℕ, inl, inr, List, length, sym, ap, ◌∙◌, arith}
use Rattle.std.proofs.lemmas.Bool.{cases_lt}
use Rattle.std.specs.Prelude.{slice_index}
use Rattle.map_lists.specs.Lists.{Lists}
use Rattle.map_theory.specs.Maps.{Dart, place_of}
use Rattle.map_theory.proofs.DartLemmas.{place_of-get_or}
use Rattle.pg_plane.specs.declared.grid_points.Point.{Point}
use Rattle.canon_order.specs.Orders.{IsCanonicalOrder}
use Rattle.contour_runs.specs.Runs.{Step, stage_after, IsRun, IsCovered}
use Rattle.contour_runs.specs.Laws.{IsCoveredOnce, CoveredOnce}
use Rattle.order_drawings.specs.SchnyderDrawings.{AreWoodPoints}
use Rattle.wood_runs.specs.Parents.{Colour, one, two, three, IsParent}
use Rattle.wood_laws.specs.Woods.{AreParentsOf, WoodOfOrder}
use Rattle.wood_laws.specs.WoodRegionsLaws.{DrawnAtCoordinates}
use Rattle.schnyder_grid.specs.FigureRegions.{FiguresByRegions}

-- the parents in a run, as functions of the vertex
module _ (once : CoveredOnce) (steps : ℕ → Step) (n : ℕ) (run : IsRun steps n) where
  -- v stands on the contour in the end, and no step covers it
  abbrev Stays : ℕ → Type 0
  Stays v = ((stage_after steps n).vertex ((stage_after steps n).place v) ≡ v) × ((k : ℕ) → k < n → ¬ IsCovered steps k v)

  -- the vertex that covers v, and 0 where none does
  above : (v : ℕ) → Stays v ⊎ IsCoveredOnce steps n v → ℕ
  above v (inl stays) = 0
  above v (inr covered) = covered.step + 2

  above-is : (v w : ℕ) (found : Stays v ⊎ IsCoveredOnce steps n v) → IsParent three steps n v w → above v found ≡ w
  unfolding above
  above-is v w (inl stays) p = absurd (stays.1 p.step p.earlier p.covered)
  above-is v w (inr covered) p = ap (λ k. k + 2) (sym (covered.alone p.step p.earlier p.covered)) ∙ sym p.parent

  third : (v : ℕ) → (v < n + 2) ⊎ (n + 2 ≤ v) → ℕ
  third v (inl l) = above v (once steps n v run l)
  third v (inr l) = 0

  third-is : (v w : ℕ) (where_is : (v < n + 2) ⊎ (n + 2 ≤ v)) → v < n + 2 → IsParent three steps n v w → third v where_is ≡ w
  unfolding third
  third-is v w (inl m) l p = above-is v w (once steps n v run m) p
  third-is v w (inr m) l p = absurd (omega (arith, l, m))

  parent_at : Colour → ℕ → ℕ
  parent_at one v = (stage_after steps (v - 2)).vertex (steps (v - 2)).first
  parent_at two v = (stage_after steps (v - 2)).vertex (steps (v - 2)).last
  parent_at three v = third v (cases_lt v (n + 2))

  parent_at-is : (c : Colour) (v w : ℕ) → v < n + 2 → IsParent c steps n v w → parent_at c v ≡ w
  unfolding parent_at
  parent_at-is one v w l p =
      let e : v - 2 ≡ p.step = let e = p.vertex in omega arith in
      ap (λ k. (stage_after steps k).vertex (steps k).first) e ∙ p.parent
  parent_at-is two v w l p =
      let e : v - 2 ≡ p.step = let e = p.vertex in omega arith in
      ap (λ k. (stage_after steps k).vertex (steps k).last) e ∙ p.parent
  parent_at-is three v w l p = third-is v w (cases_lt v (n + 2)) l p

-- so a canonical order has parents
module _ (once : CoveredOnce) (lists : Lists) (base : Dart) (at : List ℕ) (points : List Point) (order : IsCanonicalOrder lists base at) (drawn : AreWoodPoints lists base at order.cycle points) where
  parent : Colour → ℕ → ℕ
  parent c u = slice_index at (parent_at once drawn.steps (length at - 2) drawn.order.run c (place_of u at))

  parents_are : AreParentsOf at drawn.steps parent
  unfolding parent
  parents_are c v w l p =
      let here = place_of-get_or at v 0 order.built.once (omega (arith, l)) in
      ap (slice_index at) (ap (parent_at once drawn.steps (length at - 2) drawn.order.run c) here ∙ parent_at-is once drawn.steps (length at - 2) drawn.order.run c v w (omega (arith, l)) p)

pub figures_by_regions : CoveredOnce → WoodOfOrder → DrawnAtCoordinates → FiguresByRegions
figures_by_regions once wood_of drawn_at lists figure f =
    let m = f.method in
    let drawn : AreWoodPoints m.more (0, m.to) m.at m.order.cycle figure.points = m.by_order in
    let up = parent once m.more (0, m.to) m.at figure.points m.order drawn in
    let are = parents_are once m.more (0, m.to) m.at figure.points m.order drawn in
    record {
      more = m.more;
      to = m.to;
      completion = m.completion;
      parent = up;
      wood = wood_of m.more (0, m.to) m.at drawn.steps up m.completion.triangulation m.order drawn.order are;
      placed = λ v inner. drawn_at m.more (0, m.to) m.at up figure.points v m.completion.triangulation m.order drawn are inner;
    }
