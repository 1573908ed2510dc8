-- How vertices of the contour see faces.
use Rattle.std.proofs.Common.{◌≡◌, ◌≢◌, ◌⊎◌, ℕ, zero, suc, ◌+◌, ◌-◌, ◌*◌, ◌<◌, ◌≤◌, refl, sym, ap, ◌∙◌, subst, inl, inr, arith}
use Rattle.std.proofs.lemmas.Bool.{cases_eq, cases_lt}
use Rattle.std.proofs.lemmas.Bool.Decides.{nat_tests}
use Rattle.contour_runs.specs.Runs.{Step, Stage, after, base, place_after, vertex_after, stage_after, IsStep, IsRun}
use Rattle.contour_runs.specs.Laws.{IsStage}
use Rattle.contour_runs.proofs.Places.{vertex_after-low, vertex_after-new, vertex_after-high, place_after-new, cases_place}
use Rattle.contour_runs.proofs.Stages.{IsStage-run, IsRun-less}
use Rattle.wood_runs.specs.Fronts.{front_after, old_front, shade_after, fronts, shades}
use Rattle.wood_runs.proofs.Steps.{front_after-low, front_after-first, front_after-last, front_after-high, old_front-old, old_front-first, old_front-last, Sees, as_first, as_last, between, new_first, new_last, shade_after-older, shade_after-new, stays, under, behind, goes}

-- A vertex sees with shade 2 what lies before the edges up to its place, and with shade 1 what lies before those behind. What a vertex of the contour sees with shade 2 all do whose place is not before it, and what it sees with shade 1 all do whose place is not behind it.
pub record IsShaded (g : Stage) (new : ℕ) (front : ℕ → ℕ) (shade : ℕ → ℕ → ℕ) : Type 0 where
  pub made : (j : ℕ) → suc j < g.width → front j < new
  pub low : (v j : ℕ) → v < g.count → suc j < g.width → j < g.place v → shade v (front j) ≡ 2
  pub high : (v j : ℕ) → v < g.count → suc j < g.width → g.place v ≤ j → shade v (front j) ≡ 1
  pub left : (i u f : ℕ) → i < g.width → u < g.count → i ≤ g.place u → shade (g.vertex i) f ≡ 2 → shade u f ≡ 2
  pub right : (i u f : ℕ) → i < g.width → u < g.count → g.place u ≤ i → shade (g.vertex i) f ≡ 1 → shade u f ≡ 1

module _ (g : Stage) (s : Step) (new : ℕ) (front : ℕ → ℕ) (shade : ℕ → ℕ → ℕ) (stage : IsStage g) (step : IsStep g s) (h : IsShaded g new front shade) where
  abbrev front' : ℕ → ℕ
  front' = front_after s new front

  abbrev shade' : ℕ → ℕ → ℕ
  shade' = shade_after g s new front shade

  -- what lies before an edge after the step, in terms of before
  pub record OldFront (j : ℕ) : Type 0 where
    pub from : ℕ
    pub within : suc from < g.width
    pub is : old_front s new front (front' j) ≡ front from
    pub below : (v : ℕ) → v < g.count → j < place_after g s v → from < g.place v
    pub above : (v : ℕ) → v < g.count → place_after g s v ≤ j → g.place v ≤ from

  below_by : (j i v : ℕ) → v < g.count → ((j < s.first) × (i ≡ j)) ⊎ (((j ≡ s.first) × (i ≡ j)) ⊎ (((j ≡ suc s.first) × (suc i ≡ s.last)) ⊎ ((s.last ≤ i) × (j + s.last ≡ i + suc (suc s.first))))) → (j < place_after g s v → i < g.place v) × (place_after g s v ≤ j → g.place v ≤ i)
  below_by j i v l c = grind (arith, goes, stays, under, behind)

  pub old_front_is : (j : ℕ) → suc j < (after g s).width → OldFront j
  old_front_is j l =
      elim (cases_lt j s.first) [
        | inl a ↦ record {
          from = j;
          within = omega arith;
          is = ap (old_front s new front) (front_after-low s new front j a) ∙ old_front-old s new front (front j) (h.made j (omega arith));
          below = λ v m. (below_by j j v m (inl (a, refl))).0;
          above = λ v m. (below_by j j v m (inl (a, refl))).1;
        }
        | inr a ↦ elim (cases_eq j s.first) [
          | inl b ↦ record {
            from = j;
            within = omega arith;
            is = ap (old_front s new front) (front_after-first s new front j b) ∙ old_front-first s new front new refl ∙ ap front (sym b);
            below = λ v m. (below_by j j v m (inr (inl (b, refl)))).0;
            above = λ v m. (below_by j j v m (inr (inl (b, refl)))).1;
          }
          | inr b ↦ elim (cases_eq j (suc s.first)) [
            | inl c ↦
                let i : ℕ = s.last - 1 in
                let e : suc i ≡ s.last = omega arith in
                record {
                  from = i;
                  within = omega arith;
                  is = ap (old_front s new front) (front_after-last s new front j c) ∙ old_front-last s new front (suc new) i (omega arith) e;
                  below = λ v m. (below_by j i v m (inr (inr (inl (c, e))))).0;
                  above = λ v m. (below_by j i v m (inr (inr (inl (c, e))))).1;
                }
            | inr c ↦
                let i : ℕ = j + s.last - (s.first + 2) in
                let e : j + s.last ≡ i + suc (suc s.first) = omega arith in
                let d : s.last ≤ i = omega arith in
                record {
                  from = i;
                  within = omega arith;
                  is = ap (old_front s new front) (front_after-high s new front j i (omega arith) d e) ∙ old_front-old s new front (front i) (h.made i (omega arith));
                  below = λ v m. (below_by j i v m (inr (inr (inr (d, e))))).0;
                  above = λ v m. (below_by j i v m (inr (inr (inr (d, e))))).1;
                }
          ]
        ]
      ]

  -- the vertices at the two places
  abbrev wp : ℕ
  wp = g.vertex s.first

  abbrev wq : ℕ
  wq = g.vertex s.last

  pub wp_is : (wp < g.count) × (g.place wp ≡ s.first)
  wp_is = let o = step.order in let w = step.within in (stage.placed s.first (omega arith), stage.own s.first (omega arith))

  pub wq_is : (wq < g.count) × (g.place wq ≡ s.last)
  wq_is = let o = step.order in let w = step.within in (stage.placed s.last w, stage.own s.last w)

  -- what the second of them sees with shade 1 the first does, and what the first sees with shade 2 the second does
  pub one_both : (f : ℕ) → shade wq f ≡ 1 → shade wp f ≡ 1
  one_both f e = let o = step.order in let w = step.within in h.right s.last wp f w wp_is.0 (omega (arith, wp_is.1)) e

  pub two_both : (f : ℕ) → shade wp f ≡ 2 → shade wq f ≡ 2
  two_both f e = let o = step.order in let w = step.within in h.left s.first wq f (omega arith) wq_is.0 (omega (arith, wq_is.1)) e

  made' : (j : ℕ) → suc j < (after g s).width → front' j < suc (suc new)
  made' j l =
      elim (cases_lt j s.first) [
        | inl a ↦ let m = h.made j (omega arith) in omega (arith, front_after-low s new front j a)
        | inr a ↦ elim (cases_eq j s.first) [
          | inl b ↦ omega (arith, front_after-first s new front j b)
          | inr b ↦ elim (cases_eq j (suc s.first)) [
            | inl c ↦ omega (arith, front_after-last s new front j c)
            | inr c ↦
                omega (arith, front_after-high s new front j (j + s.last - (s.first + 2)) (omega arith) (omega arith) (omega arith))
          ]
        ]
      ]

  -- how the new vertex sees what lies before the edges
  new_low : (j : ℕ) → suc j < (after g s).width → j ≤ s.first → shade' g.count (front' j) ≡ 2
  new_low j l a = grind (arith, cases_eq, front_after-first, shade_after-new, front', as_first, as_last, between, new_first, new_last, front_after-low, wp, wp_is)

  new_high : (j : ℕ) → suc j < (after g s).width → s.first < j → shade' g.count (front' j) ≡ 1
  new_high j l a =
      elim (cases_eq j (suc s.first)) [
        | inl b ↦ grind (arith, front_after-last, shade_after-new, front', as_first, as_last, between, new_first, new_last)
        | inr b ↦
            let i : ℕ = j + s.last - (s.first + 2) in
            let e = front_after-high s new front j i (omega arith) (omega arith) (omega arith) in
            let t : shade wq (front' j) ≡ 1 = ap (shade wq) e ∙ h.high wq i wq_is.0 (omega arith) (omega (arith, wq_is.1)) in
            grind (arith, shade_after-new, front', as_first, one_both, as_last, between, new_first, new_last)
      ]

  low' : (v j : ℕ) → v < suc g.count → suc j < (after g s).width → j < place_after g s v → shade' v (front' j) ≡ 2
  low' v j l m a = elim (cases_lt v g.count) [
    | inl older ↦
        let f = old_front_is j m in
        shade_after-older g s new front shade v (front' j) older ∙ ap (shade v) f.is ∙ h.low v f.from older f.within (f.below v older a)
    | inr n ↦ let e : v ≡ g.count = omega arith in ap (λ v. shade' v (front' j)) e ∙ new_low j m (omega (arith, place_after-new g s v e))
  ]

  high' : (v j : ℕ) → v < suc g.count → suc j < (after g s).width → place_after g s v ≤ j → shade' v (front' j) ≡ 1
  high' v j l m a = elim (cases_lt v g.count) [
    | inl older ↦
        let f = old_front_is j m in
        shade_after-older g s new front shade v (front' j) older ∙ ap (shade v) f.is ∙ h.high v f.from older f.within (f.above v older a)
    | inr n ↦ let e : v ≡ g.count = omega arith in ap (λ v. shade' v (front' j)) e ∙ new_high j m (omega (arith, place_after-new g s v e))
  ]

  -- the first and the last face under the new vertex
  pub first_two : (v : ℕ) → v < g.count → s.first < g.place v → shade v (front s.first) ≡ 2
  first_two v l a = let o = step.order in let w = step.within in h.low v s.first l (omega arith) a

  pub first_one : (v : ℕ) → v < g.count → g.place v ≤ s.first → shade v (front s.first) ≡ 1
  first_one v l a = let o = step.order in let w = step.within in h.high v s.first l (omega arith) a

  abbrev r : ℕ
  r = s.last - 1

  pub r_is : suc r ≡ s.last
  r_is = let o = step.order in omega arith

  pub last_one : (v : ℕ) → v < g.count → g.place v < s.last → shade v (front r) ≡ 1
  last_one v l a = let w = step.within in h.high v r l (omega (arith, r_is)) (omega (arith, r_is))

  -- how an older vertex sees faces after the step
  pub older_old : (v f : ℕ) → v < g.count → f < new → shade' v f ≡ shade v f
  older_old v f l m = shade_after-older g s new front shade v f l ∙ ap (shade v) (old_front-old s new front f m)

  pub older_first : (v f : ℕ) → v < g.count → f ≡ new → shade' v f ≡ shade v (front s.first)
  older_first v f l m = shade_after-older g s new front shade v f l ∙ ap (shade v) (old_front-first s new front f m)

  pub older_last : (v f : ℕ) → v < g.count → new < f → shade' v f ≡ shade v (front r)
  older_last v f l m = shade_after-older g s new front shade v f l ∙ ap (shade v) (old_front-last s new front f r m r_is)

  -- the new vertex
  pub seen : (f : ℕ) → Sees g s new shade f (shade' g.count f)
  seen f = shade_after-new g s new front shade g.count f refl

  -- a vertex of the contour up to the first place, and the new vertex
  pub left_new : (i f : ℕ) → i ≤ s.first → shade' (g.vertex i) f ≡ 2 → shade' g.count f ≡ 2
  left_new i f a e =
      let m = stage.placed i (omega arith) in
      let from = λ (x : f < new). h.left i wp f (omega arith) wp_is.0 (omega (arith, wp_is.1)) (sym (older_old (g.vertex i) f m x) ∙ e) in
      grind (arith, seen, as_first, as_last, between, new_first, new_last, older_last, last_one)

  pub right_new : (i f : ℕ) → s.last ≤ i → i < g.width → shade' (g.vertex i) f ≡ 1 → shade' g.count f ≡ 1
  right_new i f a b e =
      let m = stage.placed i b in
      let from = λ (x : f < new). h.right i wq f b wq_is.0 (omega (arith, wq_is.1)) (sym (older_old (g.vertex i) f m x) ∙ e) in
      elim (seen f) [
        | as_first x y z ↦ absurd (omega (arith, one_both f (from x)))
        | as_last x y z t ↦ t
        | between x y z t ↦ absurd (z (from x))
        | new_first x y ↦ absurd (omega (arith, e, older_first (g.vertex i) f m x, first_two (g.vertex i) m (omega arith)))
        | new_last x y ↦ y
      ]

  -- the new vertex, and older ones with a place not before it, or not behind it
  pub new_left : (u f : ℕ) → u < g.count → s.first < g.place u → shade' g.count f ≡ 2 → shade' u f ≡ 2
  new_left u f l a e =
      elim (seen f) [
        | as_first x y z ↦ older_old u f l x ∙ h.left s.first u f (omega arith) l (omega arith) y
        | as_last x y z t ↦ absurd (omega (arith, t, e))
        | between x y z t ↦ absurd (omega (arith, t, e))
        | new_first x y ↦ older_first u f l x ∙ first_two u l a
        | new_last x y ↦ absurd (omega (arith, y, e))
      ]

  pub new_right : (u f : ℕ) → u < g.count → g.place u < s.last → shade' g.count f ≡ 1 → shade' u f ≡ 1
  new_right u f l a e =
      elim (seen f) [
        | as_first x y z ↦ absurd (omega (arith, z, e))
        | as_last x y z t ↦ older_old u f l x ∙ h.right s.last u f step.within l (omega arith) z
        | between x y z t ↦ absurd (omega (arith, t, e))
        | new_first x y ↦ absurd (omega (arith, y, e))
        | new_last x y ↦ older_last u f l x ∙ last_one u l a
      ]

  left' : (i u f : ℕ) → i < (after g s).width → u < suc g.count → i ≤ place_after g s u → shade' (vertex_after g s i) f ≡ 2 → shade' u f ≡ 2
  left' i u f l m a e =
      let o = step.order in
      elim (cases_place g s i step l) [
        | inl c ↦
            let e' = sym (ap (λ v. shade' v f) (vertex_after-low g s i c.low)) ∙ e in
            elim (cases_lt u g.count) [
              | inl older ↦
                  let le : i ≤ g.place u = elim (goes g s u o older) [ stays x y ↦ omega arith | under x y z ↦ omega arith | behind x y ↦ omega arith ] in
                  shade_after-older g s new front shade u f older ∙ h.left i u (old_front s new front f) (omega arith) older le (sym (shade_after-older g s new front shade (g.vertex i) f (stage.placed i (omega arith))) ∙ e')
              | inr n ↦ let k : u ≡ g.count = omega arith in ap (λ v. shade' v f) k ∙ left_new i f c.low e'
            ]
        | inr (inl c) ↦ grind (arith, shade', vertex_after-new, cases_lt, goes, stays, under, behind, new_left)
        | inr (inr c) ↦ grind (arith, shade', vertex_after-high, cases_lt, goes, stays, under, behind, shade_after-older, old_front, place_after-new)
      ]

  right' : (i u f : ℕ) → i < (after g s).width → u < suc g.count → place_after g s u ≤ i → shade' (vertex_after g s i) f ≡ 1 → shade' u f ≡ 1
  right' i u f l m a e =
      let o = step.order in
      elim (cases_place g s i step l) [
        | inl c ↦ grind (arith, shade', vertex_after-low, cases_lt, goes, stays, under, behind, shade_after-older, old_front, place_after-new)
        | inr (inl c) ↦ grind (arith, shade', vertex_after-new, cases_lt, goes, stays, under, behind, new_right)
        | inr (inr c) ↦
            let e' = sym (ap (λ v. shade' v f) (vertex_after-high g s i c.from (omega arith) c.high c.to)) ∙ e in
            elim (cases_lt u g.count) [
              | inl older ↦
                  let le : g.place u ≤ c.from = elim (goes g s u o older) [ stays x y ↦ omega arith | under x y z ↦ omega arith | behind x y ↦ omega arith ] in
                  shade_after-older g s new front shade u f older ∙ h.right c.from u (old_front s new front f) c.within older le (sym (shade_after-older g s new front shade (g.vertex c.from) f (stage.placed c.from c.within)) ∙ e')
              | inr n ↦ let k : u ≡ g.count = omega arith in ap (λ v. shade' v f) k ∙ right_new c.from f c.high c.within e'
            ]
      ]

  pub IsShaded-after : IsShaded (after g s) (suc (suc new)) front' shade'
  IsShaded-after = record { made = made'; low = low'; high = high'; left = left'; right = right' }

-- of the base alone
pub base_shade : (steps : ℕ → Step) (v f : ℕ) → ((v ≡ 0) × (shades steps 0 v f ≡ 1)) ⊎ ((v ≢ 0) × (shades steps 0 v f ≡ 2))
base_shade steps v f = elim (cases_eq v 0) [ inl e ↦ inl (e, grind (arith, nat_tests)) | inr e ↦ inr (e, grind (arith, nat_tests)) ]

pub IsShaded-base : (steps : ℕ → Step) → IsShaded base 1 (fronts steps 0) (shades steps 0)
IsShaded-base steps = grind (arith, base_shade)

-- at each stage of a run
pub IsShaded-run : (steps : ℕ → Step) (n : ℕ) → IsRun steps n → IsShaded (stage_after steps n) (2 * n + 1) (fronts steps n) (shades steps n)
IsShaded-run steps zero run = IsShaded-base steps
IsShaded-run steps (suc n) run =
    let less = IsRun-less steps n (suc n) (omega arith) run in
    let e : suc (suc (2 * n + 1)) ≡ 2 * suc n + 1 = omega arith in
    subst (λ new. IsShaded (stage_after steps (suc n)) new (fronts steps (suc n)) (shades steps (suc n))) e
    (IsShaded-after (stage_after steps n) (steps n) (2 * n + 1) (fronts steps n) (shades steps n) (IsStage-run steps n less) (run n (omega arith)) (IsShaded-run steps n less))
