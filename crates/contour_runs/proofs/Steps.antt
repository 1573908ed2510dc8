-- What a step does to the coordinates.
use Rattle.std.proofs.Common.{◌≡◌, ◌⊎◌, ℕ, zero, suc, ◌+◌, ◌-◌, ◌<◌, ◌≤◌, ltb, refl, ap, ◌∙◌, subst, inl, inr, arith}
use Rattle.std.proofs.lemmas.Bool.{cases_lt, cond-true, cond-false, lt-ltb, le-ltb}
use Rattle.std.proofs.lemmas.Bool.Decides.{nat_tests}
use Rattle.contour_runs.specs.Runs.{Step, Stage, moved, vertex_after, place_after, after, base, stage_after, IsStep, IsRun}
use Rattle.contour_runs.specs.Laws.{IsStage}
use Rattle.contour_runs.proofs.Places.{vertex_after-low, vertex_after-new, vertex_after-high, place_after-new, cases_place}
use Rattle.contour_runs.proofs.Stages.{IsStage-run, IsRun-less}
use Rattle.contour_runs.specs.Wood.{one_gain, two_gain, Coordinates, one_after, two_after, coordinates_after, base_coordinates, coordinates}
use Rattle.contour_runs.specs.Contours.{IsFalling}

-- the gains
pub one_gain-low : (s : Step) (i : ℕ) → i ≤ s.first → one_gain s i ≡ 1
unfolding one_gain
one_gain-low s i l = grind (arith, nat_tests)

pub one_gain-high : (s : Step) (i : ℕ) → s.first < i → one_gain s i ≡ 0
unfolding one_gain
one_gain-high s i l = grind (arith, nat_tests)

pub two_gain-low : (s : Step) (i : ℕ) → i ≤ s.first → two_gain s i ≡ 0
unfolding two_gain
two_gain-low s i l = grind (arith, nat_tests)

pub two_gain-high : (s : Step) (i : ℕ) → s.first < i → two_gain s i ≡ 1
unfolding two_gain
two_gain-high s i l = grind (arith, nat_tests)

-- both at once: one of them is 1
pub gain_both : (s : Step) (i : ℕ) → one_gain s i + two_gain s i ≡ 1
unfolding one_gain two_gain
gain_both s i = grind (arith, nat_tests)

-- along the places the first does not rise, and the second does not fall
pub gain-le : (s : Step) (i j : ℕ) → i ≤ j → (one_gain s j ≤ one_gain s i) × (two_gain s i ≤ two_gain s j)
unfolding one_gain two_gain
gain-le s i j l = (grind (arith, nat_tests), grind (arith, nat_tests))

module _ (g : Stage) (s : Step) (at : Coordinates) where
  pub one_after-older : (v : ℕ) → v < g.count → one_after g s at v ≡ at.one v + one_gain s (g.place v)
  unfolding one_after
  one_after-older v l = cond-true (ltb v g.count) (at.one v + one_gain s (g.place v)) _ (lt-ltb v g.count l)

  pub two_after-older : (v : ℕ) → v < g.count → two_after g s at v ≡ at.two v + two_gain s (g.place v)
  unfolding two_after
  two_after-older v l = cond-true (ltb v g.count) (at.two v + two_gain s (g.place v)) _ (lt-ltb v g.count l)

  pub one_after-new : (v : ℕ) → v ≡ g.count → one_after g s at v ≡ at.one (g.vertex s.last) + 1
  unfolding one_after
  one_after-new v e = cond-false (ltb v g.count) (at.one v + one_gain s (g.place v)) _ (le-ltb v g.count (omega arith))

  pub two_after-new : (v : ℕ) → v ≡ g.count → two_after g s at v ≡ at.two (g.vertex s.first)
  unfolding two_after
  two_after-new v e = cond-false (ltb v g.count) (at.two v + two_gain s (g.place v)) _ (le-ltb v g.count (omega arith))

-- the coordinates along the new contour: low, new, high
pub record IsFallingLow (g : Stage) (s : Step) (at : Coordinates) (i : ℕ) : Type 0 where
  pub low : i ≤ s.first
  pub one : one_after g s at (vertex_after g s i) ≡ at.one (g.vertex i) + 1
  pub two : two_after g s at (vertex_after g s i) ≡ at.two (g.vertex i)

pub record IsFallingNew (g : Stage) (s : Step) (at : Coordinates) (i : ℕ) : Type 0 where
  pub new : i ≡ suc s.first
  pub one : one_after g s at (vertex_after g s i) ≡ at.one (g.vertex s.last) + 1
  pub two : two_after g s at (vertex_after g s i) ≡ at.two (g.vertex s.first)

pub record IsFallingHigh (g : Stage) (s : Step) (at : Coordinates) (i : ℕ) : Type 0 where
  pub from : ℕ
  pub high : s.last ≤ from
  pub within : from < g.width
  pub to : i + s.last ≡ from + suc (suc s.first)
  pub one : one_after g s at (vertex_after g s i) ≡ at.one (g.vertex from)
  pub two : two_after g s at (vertex_after g s i) ≡ at.two (g.vertex from) + 1

module _ (g : Stage) (s : Step) (at : Coordinates) (stage : IsStage g) (step : IsStep g s) where
  -- the gains of a vertex of the contour
  pub one_after-contour : (i : ℕ) → i < g.width → one_after g s at (g.vertex i) ≡ at.one (g.vertex i) + one_gain s i
  one_after-contour i l = one_after-older g s at (g.vertex i) (stage.placed i l) ∙ ap (λ j. at.one (g.vertex i) + one_gain s j) (stage.own i l)

  pub two_after-contour : (i : ℕ) → i < g.width → two_after g s at (g.vertex i) ≡ at.two (g.vertex i) + two_gain s i
  two_after-contour i l = two_after-older g s at (g.vertex i) (stage.placed i l) ∙ ap (λ j. at.two (g.vertex i) + two_gain s j) (stage.own i l)

  pub cases_falling : (i : ℕ) → i < (after g s).width → IsFallingLow g s at i ⊎ (IsFallingNew g s at i ⊎ IsFallingHigh g s at i)
  cases_falling i l =
      elim (cases_place g s i step l) [
        | inl c ↦ inl record {
          low = c.low;
          one = ap (one_after g s at) c.vertex ∙ one_after-contour i c.within ∙ ap (λ n. at.one (g.vertex i) + n) (one_gain-low s i c.low);
          two = ap (two_after g s at) c.vertex ∙ two_after-contour i c.within ∙ ap (λ n. at.two (g.vertex i) + n) (two_gain-low s i c.low) ∙ omega arith;
        }
        | inr (inl c) ↦ inr (inl record { new = c.new; one = one_after-new g s at (vertex_after g s i) c.vertex; two = two_after-new g s at (vertex_after g s i) c.vertex })
        | inr (inr c) ↦ grind (arith, one_after, one_after-contour, one_gain-high, two_after, two_after-contour, two_gain-high)
      ]

  -- a placed vertex that is not at place 0 does not come there
  alone_after : (v : ℕ) → v < g.count → 0 < g.place v → 0 < place_after g s v
  unfolding place_after moved
  alone_after v l some = let o = step.order in grind (arith, nat_tests)

  module _ (h : IsFalling g at) where
    -- not only strictly
    pub falls_or_same : (i j : ℕ) → i ≤ j → j < g.width → at.one (g.vertex j) ≤ at.one (g.vertex i)
    falls_or_same i j a b = elim (cases_lt i j) [ inl l ↦ let f = h.falls i j l b in omega arith | inr l ↦ let e : i ≡ j = omega arith in omega (arith, ap (λ n. at.one (g.vertex n)) e) ]

    falls_after : (i j : ℕ) → i < j → j < (after g s).width → one_after g s at (vertex_after g s j) < one_after g s at (vertex_after g s i)
    falls_after i j a b = grind (arith, cases_falling, falls_or_same)

    rises_after : (i j : ℕ) → i ≤ j → j < (after g s).width → two_after g s at (vertex_after g s i) ≤ two_after g s at (vertex_after g s j)
    rises_after i j a b =
        let w = step.within in
        elim (cases_falling i (omega arith)) [
          | inl c ↦
              let ip = h.rises i s.first c.low (omega arith) in
              elim (cases_falling j b) [
                | inl d ↦ let m = d.low in omega (arith, c.two, d.two, h.rises i j a (omega arith))
                | inr (inl d) ↦ omega (arith, c.two, d.two)
                | inr (inr d) ↦ let m = d.high in omega (arith, c.two, d.two, h.rises s.first d.from (omega arith) d.within)
              ]
          | inr (inl c) ↦ let l = c.new in elim (cases_falling j b) [
            | inl d ↦ let m = d.low in absurd (omega arith)
            | inr (inl d) ↦ omega (arith, c.two, d.two)
            | inr (inr d) ↦ let m = d.high in omega (arith, c.two, d.two, h.rises s.first d.from (omega arith) d.within)
          ]
          | inr (inr c) ↦ let l = c.high in let k = c.to in elim (cases_falling j b) [
            | inl d ↦ let m = d.low in absurd (omega arith)
            | inr (inl d) ↦ let m = d.new in absurd (omega arith)
            | inr (inr d) ↦ let m = d.to in omega (arith, c.two, d.two, h.rises c.from d.from (omega arith) d.within)
          ]
        ]

    -- the two of the base
    base_after : (i v : ℕ) → i < g.width → g.vertex i ≡ v → (one_after g s at v ≡ at.one v + one_gain s i) × (two_after g s at v ≡ at.two v + two_gain s i)
    base_after i v l e = subst (λ v. (one_after g s at v ≡ at.one v + one_gain s i) × (two_after g s at v ≡ at.two v + two_gain s i)) e (one_after-contour i l, two_after-contour i l)

    -- the vertex at the last place is not the first of all
    last_some : 0 < g.vertex s.last
    last_some = grind (arith, cases_lt)

    new_sum : (v : ℕ) → v ≡ g.count → one_after g s at v + two_after g s at v + 2 ≤ suc g.count
    new_sum v e =
        let w = step.within in
        omega (arith, one_after-new g s at v e, two_after-new g s at v e, h.sums (g.vertex s.last) last_some (stage.placed s.last w), h.rises s.first s.last (omega arith) w)

    pub IsFalling-after : IsFalling (after g s) (coordinates_after g s at)
    IsFalling-after =
        let end : ℕ = g.width - 1 in
        let first = base_after 0 0 (omega arith) stage.begin in
        let second = base_after end 1 (omega arith) (stage.end end (omega arith)) in
        record {
          falls = falls_after;
          rises = rises_after;
          first_one = omega (arith, first.0, h.first_one, one_gain-low s 0 (omega arith));
          first_two = omega (arith, first.1, h.first_two, two_gain-low s 0 (omega arith));
          second_one = omega (arith, second.0, h.second_one, one_gain-high s end (omega arith));
          second_two = omega (arith, second.1, h.second_two, two_gain-high s end (omega arith));
          sums = λ v some l. elim (cases_lt v g.count) [
            | inl older ↦ omega (arith, one_after-older g s at v older, two_after-older g s at v older, h.sums v some older, gain_both s (g.place v))
            | inr new ↦ new_sum v (omega arith)
          ];
          alone = λ v some l. elim (cases_lt v g.count) [ inl older ↦ alone_after v older (h.alone v some older) | inr new ↦ omega (arith, place_after-new g s v (omega arith)) ];
        }

base_falls : (i j : ℕ) → i ≡ 0 → j ≡ 1 → base_coordinates.one j < base_coordinates.one i
base_falls i j e f = omega (arith, ap base_coordinates.one e, ap base_coordinates.one f)

base_sums : (v : ℕ) → v ≡ 1 → base_coordinates.one v + base_coordinates.two v + 2 ≤ 2
base_sums v e = omega (arith, ap base_coordinates.one e)

pub IsFalling-base : IsFalling base base_coordinates
IsFalling-base = grind (arith, base_falls, base_sums)

pub IsFalling-run : (steps : ℕ → Step) (n : ℕ) → IsRun steps n → IsFalling (stage_after steps n) (coordinates steps n)
IsFalling-run steps zero run = IsFalling-base
IsFalling-run steps (suc n) run =
    let less = IsRun-less steps n (suc n) (omega arith) run in
    IsFalling-after (stage_after steps n) (steps n) (coordinates steps n) (IsStage-run steps n less) (run n (omega arith)) (IsFalling-run steps n less)
