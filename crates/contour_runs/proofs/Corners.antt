-- The drawing of a whole run.
use Rattle.std.proofs.Common.{◌≡◌, ℕ, zero, suc, ◌+◌, ◌-◌, ◌<◌, ◌≤◌, pos, neg_ℤ, ◌<ℤ◌, eqb, refl, ap, ◌∙◌, inl, inr, arith, eq-eqb, ne_eqb}
use Rattle.std.proofs.lemmas.Bool.{cases_lt, cond-true, cond-false}
use Rattle.std.proofs.lemmas.Int.{ints}
use Rattle.pg_plane.specs.declared.grid_points.Point.{Point}
use Rattle.pg_plane.specs.Geometry.{area}
use Rattle.pg_plane.proofs.Ring.{ring, sums}
use Rattle.contour_runs.specs.Runs.{Step, Stage, stage_after, IsStep, IsFaceOf, IsRun}
use Rattle.contour_runs.proofs.Stages.{IsStage-run, IsRun-less, count-stage_after}
use Rattle.contour_runs.specs.Wood.{Coordinates, coordinates, drawn_one, drawn_two, wood_points, point_of}
use Rattle.contour_runs.specs.Spread.{IsSpread}
use Rattle.contour_runs.specs.Contours.{IsFalling}
use Rattle.contour_runs.specs.WoodPointsLaws.{StandsAt, IsCornered}
use Rattle.contour_runs.proofs.Areas.{spread_area}
use Rattle.contour_runs.proofs.Steps.{two_gain-high, one_after-new, two_after-new, two_after-older, IsFalling-run}
use Rattle.contour_runs.proofs.WoodPointsFaces.{spread_run}

-- a run of n steps that places m vertices, of which the last covers all but the base
pub record IsWholeRun (steps : ℕ → Step) (n m : ℕ) : Type 0 where
  pub run : IsRun steps n
  pub count : m ≡ n + 2
  pub some : 3 ≤ m
  pub end : (stage_after steps n).width ≡ 3

-- where the drawing has the first vertex, and the others
pub drawn_one-first : (at : Coordinates) (v : ℕ) → v ≡ 0 → drawn_one at v ≡ at.one 0 - 1
unfolding drawn_one
drawn_one-first at v e = cond-true (eqb v 0) (at.one 0 - 1) (at.one v) (eq-eqb v 0 e)

pub drawn_two-first : (at : Coordinates) (v : ℕ) → v ≡ 0 → drawn_two at v ≡ at.two 0 + 1
unfolding drawn_two
drawn_two-first at v e = cond-true (eqb v 0) (at.two 0 + 1) (at.two v) (eq-eqb v 0 e)

pub drawn_one-other : (at : Coordinates) (v : ℕ) → 0 < v → drawn_one at v ≡ at.one v
unfolding drawn_one
drawn_one-other at v l = cond-false (eqb v 0) (at.one 0 - 1) (at.one v) (ne_eqb v 0 (λ e. omega arith))

pub drawn_two-other : (at : Coordinates) (v : ℕ) → 0 < v → drawn_two at v ≡ at.two v
unfolding drawn_two
drawn_two-other at v l = cond-false (eqb v 0) (at.two 0 + 1) (at.two v) (ne_eqb v 0 (λ e. omega arith))

-- the last step of a whole run goes from the first place to the last
record IsOverAll (g : Stage) (s : Step) : Type 0 where
  pub first : s.first ≡ 0
  pub last : suc s.last ≡ g.width

over_all : (g : Stage) (s : Step) → IsStep g s → g.width + s.first + 2 - s.last ≡ 3 → IsOverAll g s
over_all g s step e = let o = step.order in let w = step.within in record { first = omega arith; last = omega arith }

-- in the end all vertices but the first and the last have a coordinate two above 0
raised : (steps : ℕ → Step) (n m v : ℕ) → IsWholeRun steps n m → 0 < v → suc v < m → 0 < (coordinates steps n).two v
raised steps zero m v whole some l = let e = whole.count in let t = whole.some in absurd (omega arith)
raised steps (suc n) m v whole some l =
    let g = stage_after steps n in
    let run = whole.run in
    let less = IsRun-less steps n (suc n) (omega arith) run in
    let h = IsFalling-run steps n less in
    let c = count-stage_after steps n in
    let e = whole.count in
    let over = over_all g (steps n) (run n (omega arith)) whole.end in
    let first = over.first in
    let older : v < g.count = omega arith in
    let place = h.alone v some older in
    omega (arith, two_after-older g (steps n) (coordinates steps n) v older, two_gain-high (steps n) (g.place v) (omega arith))

-- the last vertex stands at (1, 0)
last_corner : (steps : ℕ → Step) (n m : ℕ) → IsWholeRun steps n m → StandsAt (coordinates steps n) (m - 1) 1 0
last_corner steps zero m whole = let e = whole.count in let t = whole.some in absurd (omega arith)
last_corner steps (suc n) m whole =
    let g = stage_after steps n in
    let at = coordinates steps n in
    let run = whole.run in
    let less = IsRun-less steps n (suc n) (omega arith) run in
    let stage = IsStage-run steps n less in
    let h = IsFalling-run steps n less in
    let c = count-stage_after steps n in
    let e = whole.count in
    let over = over_all g (steps n) (run n (omega arith)) whole.end in
    let q = ap at.one (stage.end (steps n).last over.last) ∙ h.second_one in
    let p = ap at.two (ap g.vertex over.first ∙ stage.begin) ∙ h.first_two in
    (omega (arith, one_after-new g (steps n) at (m - 1) (omega arith), q), omega (arith, two_after-new g (steps n) at (m - 1) (omega arith), p))

module _ (steps : ℕ → Step) (n m : ℕ) (whole : IsWholeRun steps n m) where
  abbrev at : Coordinates
  at = coordinates steps n

  abbrev to : Coordinates
  to = wood_points steps n

  falling : IsFalling (stage_after steps n) at
  falling = IsFalling-run steps n whole.run

  counted : (stage_after steps n).count ≡ m
  counted = let e = whole.count in omega (arith, count-stage_after steps n)

  first_at : StandsAt to 0 (m - 2) 1
  first_at = let h = falling in let c = counted in let t = whole.some in (omega (arith, drawn_one-first at 0 refl, h.first_one), omega (arith, drawn_two-first at 0 refl, h.first_two))

  pub in_grid : (v : ℕ) → v < m → (to.one v ≤ m - 2) × (to.two v ≤ m - 2)
  in_grid v l = grind (arith, falling, counted, cases_lt, sums, drawn_one-other, at, drawn_two-other, to, first_at)

  pub cornered : IsCornered to m
  cornered = grind (arith, falling, counted, last_corner, first_at, drawn_one-other, at, drawn_two-other)

  -- what is spread without the first vertex stays so in the drawing
  spread_other : (a b v : ℕ) → 0 < a → 0 < b → 0 < v → IsSpread at a b v → IsSpread to a b v
  spread_other a b v la lb lv h = grind (arith, drawn_one-other, at, drawn_two-other)

  -- and so does what is spread with it as its first corner
  spread_first : (a b v : ℕ) → a ≡ 0 → 0 < b → suc b < m → 0 < v → v < m → IsSpread at a b v → IsSpread to a b v
  spread_first a b v e lb small lv top h = grind (arith, falling, counted, drawn_one-other, at, drawn_two-other, to, first_at, raised, sums)

  pub counterclockwise : (k i a b v : ℕ) → k < n → IsFaceOf steps k i a b v → pos 0 <ℤ area (point_of to a) (point_of to b) (point_of to v)
  counterclockwise k i a b v l f =
      let g = stage_after steps k in
      let run = whole.run in
      let stage = IsStage-run steps k (IsRun-less steps k n (omega arith) run) in
      let w = (run k l).within in
      let hi = f.high in
      let c = count-stage_after steps k in
      let count = whole.count in
      let ea = f.left in
      let eb = f.right in
      let ev = f.new in
      let pb = stage.placed (suc i) (omega arith) in
      let spread = spread_run steps n k i a b v run l f in
      let b_some : 0 < b = grind (arith, cases_lt) in
      spread_area to a b v (elim (cases_lt 0 a) [ inl some ↦ spread_other a b v some b_some (omega arith) spread | inr none ↦ spread_first a b v (omega arith) b_some (omega arith) (omega arith) (omega arith) spread ])

  area_back : (a b c : Point) → area b a c ≡ neg_ℤ (area a b c)
  area_back a b c = simp ring (omega (arith, sums))

  negative : (a b : _) → b ≡ neg_ℤ a → pos 0 <ℤ a → b <ℤ pos 0
  negative a b e p = omega (arith, ints)

  pub outside : area (point_of to 1) (point_of to 0) (point_of to (m - 1)) <ℤ pos 0
  outside = grind (arith, cornered, IsSpread, to, negative, area_back, point_of, spread_area)
