-- Turns that are read off, and the stages with them.
use Rattle.std.proofs.Common.{◌≡◌, ◌⊎◌, ℕ, zero, suc, ◌+◌, ◌-◌, ◌<◌, ◌≤◌, ◌&&◌, true, false, if◌then◌else◌, ltb, leb, refl, sym, ap, ap₂, subst, ◌∙◌, inl, inr, arith, eq-eqb, ne_eqb}
use Rattle.std.proofs.lemmas.Bool.{cases_lt, cases_eq, cond-true, cond-false, lt-ltb, le-ltb}
use Rattle.contour_runs.specs.Runs.{Stage}
use Rattle.contour_runs.specs.Wood.{Coordinates}
use Rattle.contour_runs.specs.FaceRuns.{Step, vertex_after, after, stage_after, IsStep, IsRun}
use Rattle.convex_counts.specs.Counts.{face_counts, counts_after, IsLeft}
use Rattle.convex_counts.specs.Turns.{goes_left, turn_from, with_turns, state, well_turned}

module _ (g : Stage) (at : Coordinates) where
  cases_left : (j : ℕ) → ((goes_left g at j ≡ true) × IsLeft g at j) ⊎ ((goes_left g at j ≡ false) × ¬ IsLeft g at j)
  unfolding goes_left
  cases_left j = grind (arith, cases_eq, cases_lt, ap₂, eq-eqb, lt-ltb, le-ltb, ltb, ne_eqb)

  -- the place that is found
  pub record IsFound (j d t : ℕ) : Type 0 where
    pub low : j ≤ t
    pub high : t ≤ j + d
    pub left : (x : ℕ) → j ≤ x → x < t → IsLeft g at x
    pub stop : (t ≡ j + d) ⊎ ¬ IsLeft g at t

  turn_from-left : (j d : ℕ) → goes_left g at j ≡ true → turn_from g at j (suc d) ≡ turn_from g at (suc j) d
  unfolding turn_from
  turn_from-left j d e = cond-true (goes_left g at j) (turn_from g at (suc j) d) j e

  turn_from-stop : (j d : ℕ) → goes_left g at j ≡ false → turn_from g at j (suc d) ≡ j
  unfolding turn_from
  turn_from-stop j d e = cond-false (goes_left g at j) (turn_from g at (suc j) d) j e

  turn_from-end : (j : ℕ) → turn_from g at j 0 ≡ j
  unfolding turn_from
  turn_from-end j = omega arith

  pub found : (d j : ℕ) → IsFound j d (turn_from g at j d)
  found zero j = let e = turn_from-end j in record { low = omega arith; high = omega arith; left = λ x a b. absurd (omega arith); stop = inl (omega arith) }
  found (suc d) j = elim (cases_left j) [
    | inl here ↦
        subst (λ z. IsFound j (suc d) z) (sym (turn_from-left j d here.0)) (further j d (turn_from g at (suc j) d) here.1 (found d (suc j)))
    | inr here ↦ subst (λ z. IsFound j (suc d) z) (sym (turn_from-stop j d here.0)) record { low = omega arith; high = omega arith; left = λ x a b. absurd (omega arith); stop = inr here.1 }
  ]
    where
      further : (j d t : ℕ) → IsLeft g at j → IsFound (suc j) d t → IsFound j (suc d) t
      further j d t here f = grind (arith, cases_lt, IsLeft)

-- the stages of a run with its turns read off
pub stage_is : (steps : ℕ → Step) (k : ℕ) → (stage_after (well_turned steps) k ≡ (state steps k).stage) × (face_counts (well_turned steps) k ≡ (state steps k).counts)
stage_is steps zero = (refl, refl)
stage_is steps (suc k) =
    let less = stage_is steps k in
    (ap (λ g. after g (well_turned steps k)) less.0, ap₂ (λ g at. counts_after g (well_turned steps k) at) less.0 less.1)

-- the contours are as before
vertex_by : (ℕ → ℕ) → ℕ → Step → ℕ → ℕ
vertex_by x m s i = if leb i s.first then x i else if leb i (s.first + s.vertices) then m + i - suc s.first else x (i + s.last - (s.first + s.vertices + 1))

vertex_as_before : (g h : Stage) (s : Step) (at : Coordinates) (t : Stage) → g.vertex ≡ h.vertex → g.count ≡ h.count → vertex_after g (with_turns t at s) ≡ vertex_after h s
unfolding vertex_after vertex_by
vertex_as_before g h s at t v c = ap₂ (λ (x : ℕ → ℕ) (m : ℕ). vertex_by x m s) v c

pub contours_as_before : (steps : ℕ → Step) (n : ℕ) → ((stage_after (well_turned steps) n).width ≡ (stage_after steps n).width) × ((stage_after (well_turned steps) n).count ≡ (stage_after steps n).count) × ((stage_after (well_turned steps) n).vertex ≡ (stage_after steps n).vertex)
contours_as_before steps zero = (refl, refl, refl)
contours_as_before steps (suc k) =
    let less = contours_as_before steps k in
    let s = steps k in
    (ap (λ w. w + s.first + s.vertices + 1 - s.last) less.0, ap (λ c. c + s.vertices) less.1, vertex_as_before (stage_after (well_turned steps) k) (stage_after steps k) s (state steps k).counts (state steps k).stage less.2 less.1)

-- a step stays one with its turns read off
step_turned : (g h : Stage) (at : Coordinates) (s : Step) → g.width ≡ h.width → IsStep h s → IsStep g (with_turns g at s)
step_turned g h at s e step = grind (arith, found)

pub run_turned : (steps : ℕ → Step) (n : ℕ) → IsRun steps n → IsRun (well_turned steps) n
run_turned steps n run k l =
    let at = (stage_is steps k).0 in
    let same = (contours_as_before steps k).0 in
    subst (λ g. IsStep g (well_turned steps k)) (sym at) (step_turned (state steps k).stage (stage_after steps k) (state steps k).counts (steps k) (ap (λ (g : Stage). g.width) (sym at) ∙ same) (run k l))
