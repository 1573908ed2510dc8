-- Where a step moves places, and what stands where after it.
use Rattle.std.proofs.Common.{◌≡◌, ◌⊎◌, ℕ, suc, ◌+◌, ◌-◌, ◌<◌, ◌≤◌, eqb, ltb, leb, ap, ◌∙◌, inl, inr, arith, eq-eqb, ne_eqb}
use Rattle.std.proofs.lemmas.Bool.{cases_eq, cases_lt, cond-true, cond-false, lt-ltb, le-ltb, le-leb, lt-leb}
use Rattle.std.proofs.lemmas.Bool.Decides.{nat_tests}
use Rattle.contour_runs.specs.Runs.{Step, Stage, moved, vertex_after, place_after, after, IsStep}

-- the place map: low, between, high
pub moved-low : (s : Step) (i : ℕ) → i ≤ s.first → moved s i ≡ i
unfolding moved
moved-low s i l = cond-true (leb i s.first) i _ (le-leb i s.first l)

pub moved-between : (s : Step) (i : ℕ) → s.first < i → i < s.last → moved s i ≡ suc s.first
unfolding moved
moved-between s i l m = cond-false (leb i s.first) i _ (lt-leb i s.first l) ∙ cond-true (ltb i s.last) (suc s.first) _ (lt-ltb i s.last m)

pub moved-high : (s : Step) (i : ℕ) → s.first < s.last → s.last ≤ i → moved s i + s.last ≡ i + suc (suc s.first)
unfolding moved
moved-high s i o l =
    let e = cond-false (leb i s.first) i _ (lt-leb i s.first (omega arith)) ∙ cond-false (ltb i s.last) (suc s.first) (i + s.first + 2 - s.last) (le-ltb i s.last l) in
    omega (arith, e)

-- it does not fall
pub moved-le : (s : Step) (i j : ℕ) → s.first < s.last → i ≤ j → moved s i ≤ moved s j
unfolding moved
moved-le s i j o l = grind (arith, nat_tests)

-- what stands where after a step: low, new, high
pub vertex_after-low : (g : Stage) (s : Step) (i : ℕ) → i ≤ s.first → vertex_after g s i ≡ g.vertex i
unfolding vertex_after
vertex_after-low g s i l = cond-true (leb i s.first) (g.vertex i) _ (le-leb i s.first l)

pub vertex_after-new : (g : Stage) (s : Step) (i : ℕ) → i ≡ suc s.first → vertex_after g s i ≡ g.count
unfolding vertex_after
vertex_after-new g s i e = cond-false (leb i s.first) (g.vertex i) _ (lt-leb i s.first (omega arith)) ∙ cond-true (eqb i (suc s.first)) g.count _ (eq-eqb i (suc s.first) e)

pub vertex_after-high : (g : Stage) (s : Step) (i j : ℕ) → suc s.first < i → s.last ≤ j → i + s.last ≡ j + suc (suc s.first) → vertex_after g s i ≡ g.vertex j
unfolding vertex_after
vertex_after-high g s i j l m e =
    let n : i + s.last - (s.first + 2) ≡ j = omega arith in
    cond-false (leb i s.first) (g.vertex i) _ (lt-leb i s.first (omega arith)) ∙ cond-false (eqb i (suc s.first)) g.count _ (ne_eqb i (suc s.first) (omega arith)) ∙ ap g.vertex n

-- a placed vertex is older or new
pub place_after-older : (g : Stage) (s : Step) (v : ℕ) → v < g.count → place_after g s v ≡ moved s (g.place v)
unfolding place_after
place_after-older g s v l = cond-true (ltb v g.count) (moved s (g.place v)) _ (lt-ltb v g.count l)

pub place_after-new : (g : Stage) (s : Step) (v : ℕ) → v ≡ g.count → place_after g s v ≡ suc s.first
unfolding place_after
place_after-new g s v e = cond-false (ltb v g.count) (moved s (g.place v)) _ (le-ltb v g.count (omega arith))

-- where a place of the contour after a step comes from, and what stands there
pub record IsLow (g : Stage) (s : Step) (i : ℕ) : Type 0 where
  pub low : i ≤ s.first
  pub within : i < g.width
  pub vertex : vertex_after g s i ≡ g.vertex i

pub record IsNew (g : Stage) (s : Step) (i : ℕ) : Type 0 where
  pub new : i ≡ suc s.first
  pub vertex : vertex_after g s i ≡ g.count

pub record IsHigh (g : Stage) (s : Step) (i : ℕ) : Type 0 where
  pub from : ℕ
  pub high : s.last ≤ from
  pub within : from < g.width
  pub to : i + s.last ≡ from + suc (suc s.first)
  pub vertex : vertex_after g s i ≡ g.vertex from

pub cases_place : (g : Stage) (s : Step) (i : ℕ) → IsStep g s → i < (after g s).width → IsLow g s i ⊎ (IsNew g s i ⊎ IsHigh g s i)
cases_place g s i h l =
    elim (cases_lt s.first i) [
      | inr a ↦ inl record { low = a; within = omega arith; vertex = vertex_after-low g s i a }
      | inl a ↦ elim (cases_eq i (suc s.first)) [
        | inl e ↦ inr (inl record { new = e; vertex = vertex_after-new g s i e })
        | inr ne ↦
            let from : ℕ = i + s.last - (s.first + 2) in
            let high : s.last ≤ from = omega arith in
            let to : i + s.last ≡ from + suc (suc s.first) = omega arith in
            inr (inr record { from = from; high = high; within = omega arith; to = to; vertex = vertex_after-high g s i from (omega arith) high to })
      ]
    ]
