-- What a step does to the gaps.
use Rattle.std.proofs.Common.{◌≡◌, ◌≢◌, ◌⊎◌, ◌+◌, ◌-◌, ◌<◌, ◌≤◌, ℕ, suc, List, get_or, sym, ap, ◌∙◌, subst, inl, inr, arith}
use Rattle.std.proofs.lemmas.Bool.{cases_lt, cases_eq}
use Rattle.contour_runs.specs.Runs.{Step, Stage, moved, vertex_after, place_after, after, IsStep}
use Rattle.contour_runs.specs.Laws.{IsStage}
use Rattle.contour_runs.proofs.Places.{moved-low, moved-between, moved-high, vertex_after-low, vertex_after-new, vertex_after-high, place_after-older, place_after-new}
use Rattle.contour_runs.specs.Wood.{one_gain, two_gain, Coordinates, coordinates_after}
use Rattle.contour_runs.specs.Contours.{IsFalling}
use Rattle.contour_runs.proofs.Steps.{one_gain-low, one_gain-high, two_gain-low, two_gain-high, one_after-older, two_after-older, one_after-new, two_after-new, one_after-contour, two_after-contour}
use Rattle.grid_figures.specs.Gaps.{IsUnder, AreGaps}

-- What a step writes, by the coordinates before it.
pub record IsWritten (g : Stage) (s : Step) (at : Coordinates) (v : ℕ) (drops rises spans covers drops' rises' spans' covers' : List ℕ) : Type 0 where
  pub new_drop : get_or drops' v 0 + at.one (g.vertex s.last) ≡ at.one (g.vertex s.first)
  pub new_span : get_or spans' v 0 + at.one (g.vertex s.last) ≡ at.one (g.vertex s.first)
  pub new_rise : get_or rises' v 0 ≡ 0
  pub last_drop : get_or drops' (g.vertex s.last) 0 ≡ 1
  pub between : (i : ℕ) → s.first < i → i < s.last → get_or drops' (g.vertex i) 0 + at.one (g.vertex i) ≡ at.one (g.vertex s.first) + 1
  pub risen : (i : ℕ) → s.first < i → i ≤ s.last → get_or rises' (g.vertex i) 0 + at.two (g.vertex s.first) ≡ at.two (g.vertex i) + 1
  pub covered : (i : ℕ) → s.first < i → i < s.last → get_or covers' (g.vertex i) 0 ≡ v
  pub same_span : (u : ℕ) → u ≢ v → get_or spans' u 0 ≡ get_or spans u 0
  pub same_drop : (u : ℕ) → u ≢ v → ((i : ℕ) → s.first < i → i ≤ s.last → g.vertex i ≢ u) → get_or drops' u 0 ≡ get_or drops u 0
  pub same_rise : (u : ℕ) → u ≢ v → ((i : ℕ) → s.first < i → i ≤ s.last → g.vertex i ≢ u) → get_or rises' u 0 ≡ get_or rises u 0
  pub same_cover : (u : ℕ) → ((i : ℕ) → s.first < i → i ≤ s.last → g.vertex i ≢ u) → get_or covers' u 0 ≡ get_or covers u 0

-- the gap from a place of the contour to the next, in both coordinates
record IsGap (at : Coordinates) (drops rises : List ℕ) (u w : ℕ) : Type 0 where
  pub one : at.one u ≡ at.one w + get_or drops w 0
  pub two : at.two w ≡ at.two u + get_or rises w 0

IsGap-at : (at : Coordinates) (drops rises : List ℕ) (u u' w w' : ℕ) → u ≡ u' → w ≡ w' → IsGap at drops rises u' w' → IsGap at drops rises u w
IsGap-at at drops rises u u' w w' e f h = subst (λ u. IsGap at drops rises u w) (sym e) (subst (λ w. IsGap at drops rises u' w) (sym f) h)

module _ (g : Stage) (s : Step) (at : Coordinates) (v : ℕ) (drops rises spans covers drops' rises' spans' covers' : List ℕ) (stage : IsStage g) (h : IsFalling g at) (step : IsStep g s) (count : g.count ≡ v) (before : AreGaps g at drops rises spans covers) (wrote : IsWritten g s at v drops rises spans covers drops' rises' spans' covers') where
  abbrev p : ℕ
  p = g.vertex s.first

  abbrev q : ℕ
  q = g.vertex s.last

  abbrev to : Coordinates
  to = coordinates_after g s at

  -- a vertex of the contour before the row, or behind it, keeps its gaps
  kept : (j : ℕ) → j < g.width → (j ≤ s.first) ⊎ (s.last < j) → (get_or drops' (g.vertex j) 0 ≡ get_or drops (g.vertex j) 0) × (get_or rises' (g.vertex j) 0 ≡ get_or rises (g.vertex j) 0)
  kept j l away =
      let w = step.within in
      let o = step.order in
      let older = stage.placed j l in
      let other : g.vertex j ≢ v = λ e. absurd (omega (arith, e, older, count)) in
      let apart : (i : ℕ) → s.first < i → i ≤ s.last → g.vertex i ≢ g.vertex j = λ i a b e.
      let same : i ≡ j = sym (stage.own i (omega arith)) ∙ ap g.place e ∙ stage.own j l in
      elim away [ inl c ↦ absurd (omega arith) | inr c ↦ absurd (omega arith) ] in
      (wrote.same_drop (g.vertex j) other apart, wrote.same_rise (g.vertex j) other apart)

  abbrev gap : ℕ → ℕ → Type 0
  gap u w = IsGap to drops' rises' u w

  -- along the contour, by where the second vertex comes from
  gap_low : (i : ℕ) → suc i ≤ s.first → gap (g.vertex i) (g.vertex (suc i))
  gap_low i a =
      let o = step.order in
      let w = step.within in
      let k = kept (suc i) (omega arith) (inl a) in
      record {
        one = omega (arith, one_after-contour g s at stage step i (omega arith), one_after-contour g s at stage step (suc i) (omega arith), one_gain-low s i (omega arith), one_gain-low s (suc i) a, before.drop i (omega arith), k.0);
        two = omega (arith, two_after-contour g s at stage step i (omega arith), two_after-contour g s at stage step (suc i) (omega arith), two_gain-low s i (omega arith), two_gain-low s (suc i) a, before.rise i (omega arith), k.1);
      }

  gap_new : gap p v
  gap_new =
      let o = step.order in
      let w = step.within in
      record {
        one = omega (arith, one_after-contour g s at stage step s.first (omega arith), one_gain-low s s.first (omega arith), one_after-new g s at v (sym count), wrote.new_drop);
        two = omega (arith, two_after-contour g s at stage step s.first (omega arith), two_gain-low s s.first (omega arith), two_after-new g s at v (sym count), wrote.new_rise);
      }

  gap_last : gap v q
  gap_last =
      let o = step.order in
      let w = step.within in
      record {
        one = omega (arith, one_after-contour g s at stage step s.last w, one_gain-high s s.last o, one_after-new g s at v (sym count), wrote.last_drop);
        two = omega (arith, two_after-contour g s at stage step s.last w, two_gain-high s s.last o, two_after-new g s at v (sym count), wrote.risen s.last o (omega arith));
      }

  gap_high : (j : ℕ) → s.last ≤ j → suc j < g.width → gap (g.vertex j) (g.vertex (suc j))
  gap_high j a l =
      let o = step.order in
      let k = kept (suc j) l (inr (omega arith)) in
      record {
        one = omega (arith, one_after-contour g s at stage step j (omega arith), one_after-contour g s at stage step (suc j) l, one_gain-high s j (omega arith), one_gain-high s (suc j) (omega arith), before.drop j l, k.0);
        two = omega (arith, two_after-contour g s at stage step j (omega arith), two_after-contour g s at stage step (suc j) l, two_gain-high s j (omega arith), two_gain-high s (suc j) (omega arith), before.rise j l, k.1);
      }

  gap_after : (i : ℕ) → suc i < (after g s).width → gap (vertex_after g s i) (vertex_after g s (suc i))
  gap_after i l =
      let o = step.order in
      let w = step.within in
      let at_places : (u w : ℕ) → vertex_after g s i ≡ u → vertex_after g s (suc i) ≡ w → gap u w → gap (vertex_after g s i) (vertex_after g s (suc i)) = λ u w. IsGap-at to drops' rises' (vertex_after g s i) u (vertex_after g s (suc i)) w in
      elim (cases_lt i s.first) [
        | inl a ↦ at_places (g.vertex i) (g.vertex (suc i)) (vertex_after-low g s i (omega arith)) (vertex_after-low g s (suc i) (omega arith)) (gap_low i (omega arith))
        | inr a ↦ elim (cases_eq i s.first) [
          | inl e ↦ at_places p v (vertex_after-low g s i (omega arith) ∙ ap g.vertex e) (vertex_after-new g s (suc i) (omega arith) ∙ count) gap_new
          | inr ne ↦ elim (cases_eq i (suc s.first)) [
            | inl e ↦ at_places v q (vertex_after-new g s i e ∙ count) (vertex_after-high g s (suc i) s.last (omega arith) (omega arith) (omega arith)) gap_last
            | inr ne' ↦
                let j : ℕ = i + s.last - (s.first + 2) in
                at_places (g.vertex j) (g.vertex (suc j)) (vertex_after-high g s i j (omega arith) (omega arith) (omega arith)) (vertex_after-high g s (suc i) (suc j) (omega arith) (omega arith) (omega arith)) (gap_high j (omega arith) (omega arith))
          ]
        ]
      ]

  -- v as what u is under, where it is noted so
  under_by : (u c : ℕ) → get_or covers' u 0 ≡ c → u < c → c < suc g.count → place_after g s c ≡ place_after g s u → to.one u + get_or drops' u 0 ≡ to.one c + get_or spans' c 0 → to.two u ≡ to.two c + get_or rises' u 0 → IsUnder (after g s) to drops' rises' spans' covers' u
  under_by u c e later placed together one two = record {
    later = subst (λ c. u < c) (sym e) later;
    placed = subst (λ c. c < suc g.count) (sym e) placed;
    together = ap (place_after g s) e ∙ together;
    one = subst (λ c. to.one u + get_or drops' u 0 ≡ to.one c + get_or spans' c 0) (sym e) one;
    two = subst (λ c. to.two u ≡ to.two c + get_or rises' u 0) (sym e) two;
  }

  -- a vertex of the row is covered by v
  under_new : (i : ℕ) → s.first < i → i < s.last → IsUnder (after g s) to drops' rises' spans' covers' (g.vertex i)
  under_new i a b =
      let w = step.within in
      let l : i < g.width = omega arith in
      let older = stage.placed i l in
      under_by (g.vertex i) v (wrote.covered i a b) (omega arith) (omega arith)
      (place_after-new g s v (sym count) ∙ sym (place_after-older g s (g.vertex i) older ∙ ap (moved s) (stage.own i l) ∙ moved-between s i a b))
      (omega (arith, one_after-contour g s at stage step i l, one_gain-high s i a, one_after-new g s at v (sym count), wrote.between i a b, wrote.new_span))
      (omega (arith, two_after-contour g s at stage step i l, two_gain-high s i a, two_after-new g s at v (sym count), wrote.risen i a (omega arith)))

  -- one that was under another stays there
  under_old : (u : ℕ) → u < g.count → g.vertex (g.place u) ≢ u → IsUnder (after g s) to drops' rises' spans' covers' u
  under_old u older ne =
      let w = step.within in
      let o = step.order in
      let b = before.under u older ne in
      let c : ℕ = get_or covers u 0 in
      let away : (i : ℕ) → s.first < i → i ≤ s.last → g.vertex i ≢ u = λ i a l e. ne (ap g.vertex (ap g.place (sym e) ∙ stage.own i (omega arith)) ∙ e) in
      let other : u ≢ v = λ e. absurd (omega (arith, e, older, count)) in
      let placed = b.placed in
      let other' : c ≢ v = λ e. absurd (omega (arith, e, placed, count)) in
      under_by u c (wrote.same_cover u away) b.later (omega arith)
      (place_after-older g s c placed ∙ ap (moved s) b.together ∙ sym (place_after-older g s u older))
      (omega (arith, one_after-older g s at u older, one_after-older g s at c placed, ap (one_gain s) b.together, b.one, wrote.same_drop u other away, wrote.same_span c other'))
      (omega (arith, two_after-older g s at u older, two_after-older g s at c placed, ap (two_gain s) b.together, b.two, wrote.same_rise u other away))

  under_after : (u : ℕ) → u < suc g.count → vertex_after g s (place_after g s u) ≢ u → IsUnder (after g s) to drops' rises' spans' covers' u
  under_after u l gone =
      let o = step.order in
      elim (cases_lt u g.count) [
        | inr new ↦ absurd (gone (vertex_after-new g s (place_after g s u) (place_after-new g s u (omega arith)) ∙ omega arith))
        | inl older ↦ elim (cases_eq (g.vertex (g.place u)) u) [
          | inr ne ↦ under_old u older ne
          | inl e ↦
              let i = g.place u in
              let there = place_after-older g s u older in
              elim (cases_lt s.first i) [
                | inr a ↦ absurd (gone (ap (vertex_after g s) (there ∙ moved-low s i a) ∙ vertex_after-low g s i a ∙ e))
                | inl a ↦ elim (cases_lt i s.last) [
                  | inl b ↦ subst (IsUnder (after g s) to drops' rises' spans' covers') e (under_new i a b)
                  | inr b ↦ let n = moved-high s i o b in absurd (gone (ap (vertex_after g s) there ∙ vertex_after-high g s (moved s i) i (omega arith) b n ∙ e))
                ]
              ]
        ]
      ]

  -- no vertex of the contour has a coordinate one as large as their number
  one_small : at.one p < suc g.count
  one_small =
      let o = step.order in
      let w = step.within in
      elim (cases_lt 0 p) [
        | inl some ↦ let sum = h.sums p some (stage.placed s.first (omega arith)) in omega arith
        | inr none ↦ let e : p ≡ 0 = omega arith in omega (arith, ap at.one e, h.first_one)
      ]

  pub AreGaps-after : AreGaps (after g s) to drops' rises' spans' covers'
  AreGaps-after = record {
    drop = λ i l. (gap_after i l).one;
    rise = λ i l. (gap_after i l).two;
    under = under_after;
    small = λ u. elim (cases_eq u v) [
      | inl e ↦ omega (arith, ap (λ u. get_or spans' u 0) e, wrote.new_span, one_small)
      | inr ne ↦ omega (arith, wrote.same_span u ne, before.small u)
    ];
  }
