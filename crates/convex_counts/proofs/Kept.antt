-- What two vertices of a face keep over a step, with the order of their places.
use Rattle.std.proofs.Common.{◌≡◌, ℕ, suc, ◌+◌, ◌<◌, ◌≤◌, sym, ap, ◌∙◌, arith}
use Rattle.contour_runs.specs.Runs.{Stage}
use Rattle.contour_runs.proofs.Upward.{upward}
use Rattle.contour_runs.specs.Wood.{Coordinates}
use Rattle.contour_runs.specs.FaceRuns.{Step, moved, after, stage_after, IsStep, IsRun}
use Rattle.contour_runs.proofs.FaceRunsPlaces.{moved-le, place_after-older}
use Rattle.contour_runs.proofs.FaceRunsStages.{count-le}
use Rattle.convex_counts.specs.Counts.{counts_after, face_counts, two_gain}
use Rattle.convex_counts.proofs.Gains.{gain-le, one_after-older, two_after-older}

-- a comes before b on the first side
pub record AreOnFirst (at : Coordinates) (a b : ℕ) : Type 0 where
  pub one : at.one b ≡ at.one a
  pub two : at.two a < at.two b

-- a comes before b on the second side
pub record AreOnSecond (at : Coordinates) (a b : ℕ) : Type 0 where
  pub one : at.one b < at.one a
  pub two : at.two b ≡ at.two a

-- a comes before b on the third side, or both are at one point
pub record AreOnThird (at : Coordinates) (a b : ℕ) : Type 0 where
  pub one : at.one a ≤ at.one b
  pub sum : at.one b + at.two b ≡ at.one a + at.two a

-- a is on the first side and b on the second
pub record IsFirstSecond (at : Coordinates) (a b : ℕ) : Type 0 where
  pub one : at.one b < at.one a
  pub two : at.two a < at.two b

-- a is on the second side and b on the third
pub record IsSecondThird (at : Coordinates) (a b : ℕ) : Type 0 where
  pub two : at.two b < at.two a
  pub sum : at.one b + at.two b < at.one a + at.two a

-- a is on the third side and b on the first
pub record IsThirdFirst (at : Coordinates) (a b : ℕ) : Type 0 where
  pub one : at.one a < at.one b
  pub sum : at.one a + at.two a < at.one b + at.two b

-- at one place on the first side or the second
pub record KeepsFirst (g : Stage) (at : Coordinates) (a b : ℕ) : Type 0 where
  pub are : AreOnFirst at a b
  pub place : g.place b ≡ g.place a

pub record KeepsSecond (g : Stage) (at : Coordinates) (a b : ℕ) : Type 0 where
  pub are : AreOnSecond at a b
  pub place : g.place b ≡ g.place a

pub record KeepsThird (g : Stage) (at : Coordinates) (a b : ℕ) : Type 0 where
  pub are : AreOnThird at a b
  pub place : g.place b ≤ g.place a

pub record KeepsFirstSecond (g : Stage) (at : Coordinates) (a b : ℕ) : Type 0 where
  pub are : IsFirstSecond at a b
  pub place : g.place a ≤ g.place b

pub record KeepsSecondThird (g : Stage) (at : Coordinates) (a b : ℕ) : Type 0 where
  pub are : IsSecondThird at a b
  pub place : g.place b ≤ g.place a

pub record KeepsThirdFirst (g : Stage) (at : Coordinates) (a b : ℕ) : Type 0 where
  pub are : IsThirdFirst at a b
  pub place : g.place b ≤ g.place a

module _ (g : Stage) (s : Step) (at : Coordinates) (a b : ℕ) (step : IsStep g s) (la : a < g.count) (lb : b < g.count) where
  a1 : (counts_after g s at).one a + two_gain s (g.place a) ≡ at.one a + s.faces
  a1 = one_after-older g s at a la

  a2 : (counts_after g s at).two a ≡ at.two a + two_gain s (g.place a)
  a2 = two_after-older g s at a la

  b1 : (counts_after g s at).one b + two_gain s (g.place b) ≡ at.one b + s.faces
  b1 = one_after-older g s at b lb

  b2 : (counts_after g s at).two b ≡ at.two b + two_gain s (g.place b)
  b2 = two_after-older g s at b lb

  same_gain : g.place b ≡ g.place a → two_gain s (g.place b) ≡ two_gain s (g.place a)
  same_gain e = ap (two_gain s) e

  same_place : g.place b ≡ g.place a → (after g s).place b ≡ (after g s).place a
  same_place e = place_after-older g s b lb ∙ ap (moved s) e ∙ sym (place_after-older g s a la)

  earlier : g.place a ≤ g.place b → (after g s).place a ≤ (after g s).place b
  earlier l = omega (arith, place_after-older g s a la, place_after-older g s b lb, moved-le g s step (g.place a) (g.place b) l)

  later : g.place b ≤ g.place a → (after g s).place b ≤ (after g s).place a
  later l = omega (arith, place_after-older g s a la, place_after-older g s b lb, moved-le g s step (g.place b) (g.place a) l)

  pub KeepsFirst-after : KeepsFirst g at a b → KeepsFirst (after g s) (counts_after g s at) a b
  KeepsFirst-after k =
      let e = same_gain k.place in
      record { are = record { one = omega (arith, a1, b1, k.are.one); two = omega (arith, a2, b2, k.are.two) }; place = same_place k.place }

  pub KeepsSecond-after : KeepsSecond g at a b → KeepsSecond (after g s) (counts_after g s at) a b
  KeepsSecond-after k =
      let e = same_gain k.place in
      record { are = record { one = omega (arith, a1, b1, k.are.one); two = omega (arith, a2, b2, k.are.two) }; place = same_place k.place }

  pub KeepsThird-after : KeepsThird g at a b → KeepsThird (after g s) (counts_after g s at) a b
  KeepsThird-after k =
      let e = gain-le s (g.place b) (g.place a) k.place in
      record { are = record { one = omega (arith, a1, b1, k.are.one); sum = omega (arith, a1, b1, a2, b2, k.are.sum) }; place = later k.place }

  pub KeepsFirstSecond-after : KeepsFirstSecond g at a b → KeepsFirstSecond (after g s) (counts_after g s at) a b
  KeepsFirstSecond-after k =
      let e = gain-le s (g.place a) (g.place b) k.place in
      record { are = record { one = omega (arith, a1, b1, k.are.one); two = omega (arith, a2, b2, k.are.two) }; place = earlier k.place }

  pub KeepsSecondThird-after : KeepsSecondThird g at a b → KeepsSecondThird (after g s) (counts_after g s at) a b
  KeepsSecondThird-after k =
      let e = gain-le s (g.place b) (g.place a) k.place in
      record { are = record { two = omega (arith, a2, b2, k.are.two); sum = omega (arith, a1, b1, a2, b2, k.are.sum) }; place = later k.place }

  pub KeepsThirdFirst-after : KeepsThirdFirst g at a b → KeepsThirdFirst (after g s) (counts_after g s at) a b
  KeepsThirdFirst-after k =
      let e = gain-le s (g.place b) (g.place a) k.place in
      record { are = record { one = omega (arith, a1, b1, k.are.one); sum = omega (arith, a1, b1, a2, b2, k.are.sum) }; place = later k.place }

-- what holds of two vertices after a step, and is kept, holds from then on
pub kept_on : (P : Stage → Coordinates → ℕ → ℕ → Type 0) → ((g : Stage) (s : Step) (at : Coordinates) (a b : ℕ) → IsStep g s → a < g.count → b < g.count → P g at a b → P (after g s) (counts_after g s at) a b) → (steps : ℕ → Step) (n k a b : ℕ) → IsRun steps n → k < n → a < (stage_after steps (suc k)).count → b < (stage_after steps (suc k)).count → P (stage_after steps (suc k)) (face_counts steps (suc k)) a b → P (stage_after steps n) (face_counts steps n) a b
kept_on P kept steps n k a b run l la lb begun =
    upward (λ z. P (stage_after steps z) (face_counts steps z) a b) (suc k) n l begun
    (λ z low high p. let c = count-le steps (suc k) z low in kept (stage_after steps z) (steps z) (face_counts steps z) a b (run z high) (omega arith) (omega arith) p)
